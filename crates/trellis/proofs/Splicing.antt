-- A part of a list that is written over.
use Rattle.std.proofs.Common.{◌≡◌, ℕ, ◌+◌, ◌-◌, ◌<◌, ◌≤◌, List, ◌++◌, length, get_or, take, drop, ap, ◌∙◌, arith}
use Rattle.std.proofs.lemmas.List.{length-take, length-append, length-drop, get_or-take, get_or-drop, get_or_append_left, get_or-append_right}
use borrow.Rule.Slice.PartMut.{put_mid, post_of}

-- k elements of a list from the place a on
pub length_part : (a k : ℕ) (was : List ℕ) → a + k ≤ length was → length (take k (drop a was)) ≡ k
length_part a k was room = simp (length-take, length-drop) (omega arith)

pub part_at : (a k : ℕ) (was : List ℕ) (i : ℕ) → i < k → get_or (take k (drop a was)) i 0 ≡ get_or was (a + i) 0
part_at a k was i h = get_or-take k (drop a was) i 0 h ∙ get_or-drop a was i 0

module _ (a k : ℕ) (was new : List ℕ) (room : a + k ≤ length was) (long : length new ≡ k) where
  front : length (take a was) ≡ a
  front = simp length-take (omega arith)

  pub put_before : (i : ℕ) → i < a → get_or (put_mid a k was new) i 0 ≡ get_or was i 0
  put_before i h = get_or_append_left (take a was) (new ++ post_of a k was) 0 i (omega (arith, front)) ∙ get_or-take a was i 0 h

  pub put_in : (i : ℕ) → i < k → get_or (put_mid a k was new) (a + i) 0 ≡ get_or new i 0
  put_in i h =
      let e : a + i - a ≡ i = omega arith in
      get_or-append_right (take a was) (new ++ post_of a k was) a (a + i) 0 front (omega arith)
      ∙ ap (λ j. get_or (new ++ post_of a k was) j 0) e
      ∙ get_or_append_left new (post_of a k was) 0 i (omega arith)

  pub put_after : (i : ℕ) → a + k ≤ i → get_or (put_mid a k was new) i 0 ≡ get_or was i 0
  put_after i h =
      let whole : a + (k + (i - a - k)) ≡ i = omega arith in
      get_or-append_right (take a was) (new ++ post_of a k was) a i 0 front (omega arith)
      ∙ get_or-append_right new (post_of a k was) k (i - a) 0 long (omega arith)
      ∙ get_or-drop k (drop a was) (i - a - k) 0
      ∙ get_or-drop a was (k + (i - a - k)) 0
      ∙ ap (λ j. get_or was j 0) whole

  pub put_long : length (put_mid a k was new) ≡ length was
  put_long = length-append (take a was) (new ++ post_of a k was) ∙ omega (arith, front, length-append new (post_of a k was), length-drop k (drop a was), length-drop a was)
