-- The steps by both halves of a state's digits, added.
use Rattle.std.proofs.Common.{◌≡◌, ℕ, ◌+◌, ◌*◌, ◌^◌, ◌<◌, List, length, get_or, take, drop, sym, ap, ◌∙◌, ap₂, mul-one, arith}
use Rattle.std.proofs.lemmas.List.{length-take, length-drop, get_or-take, get_or-drop}
use Rattle.field.specs.Field.{Ops, Laws}
use Rattle.algebra.specs.Words.{word}
use Rattle.generator.specs.declared.Generator.{Generator}
use Rattle.generator.specs.Parts.{size}
use Rattle.cosets.specs.States.{moved, checks, next}
use Rattle.cosets.proofs.States.{moved_split}
use Rattle.trellis.specs.declared.shape.Shape.{Shape}
use Rattle.trellis.specs.Columns.{Columns}
use Rattle.trellis.specs.Shapes.{Shaped}
use Rattle.trellis.specs.Steps.{Tabulated}
use Rattle.trellis.proofs.Columning.{column, column_length, column_moves}
use Rattle.trellis.proofs.Shaping.{upper_states, lower_states}
use Rattle.trellis.proofs.Stepping.{moved_same}

module _ (f : Ops) (l : Laws f) (g : Generator) (h : Shape) (shaped : Shaped f g h) (columns : List (List ℕ)) (made : Columns f g columns) (p digits : ℕ) (inside : p < size g) (all : digits ≡ checks g) (x : ℕ) (upper lower high low : List ℕ) where
  abbrev whole : List ℕ
  whole = column f g columns made p digits inside all

  -- where both halves are tabulated, the sum of their entries is the state that the symbol leads to
  pub halves_lead : upper ≡ take h.high_digits whole → lower ≡ drop h.high_digits whole → Tabulated f upper x h.lows high → Tabulated f lower x 1 low
      → (u v : ℕ) → u < h.highs → v < h.lows → get_or high u 0 + get_or low v 0 ≡ next f g p (u * h.lows + v) x
  halves_lead eu el tu tl u v hu hv =
      let a = h.high_digits in
      let b = h.low_digits in
      let all_digits = shaped.digits in
      let long = column_length f g columns made p digits inside all in
      let ha : length upper ≡ a = ap length eu ∙ simp length-take (omega arith) in
      let hb : length lower ≡ b = ap length el ∙ length-drop a whole ∙ omega arith in
      let lows = lower_states f g h shaped in
      let first : get_or high u 0 ≡ moved f (word whole) a u x * h.lows =
      tu u (omega (arith, ap (λ d. f.order ^ d) ha, upper_states f g h shaped))
      ∙ ap (λ d. moved f (word upper) d u x * h.lows) ha
      ∙ ap (λ m. m * h.lows) (moved_same f (word upper) (word whole) a u x (λ i i_in. ap (λ w. get_or w i 0) eu ∙ get_or-take a whole i 0 i_in)) in
      let second : get_or low v 0 ≡ moved f (λ i. word whole (a + i)) b v x =
      tl v (omega (arith, ap (λ d. f.order ^ d) hb, lows))
      ∙ mul-one _
      ∙ ap (λ d. moved f (word lower) d v x) hb
      ∙ moved_same f (word lower) (λ i. word whole (a + i)) b v x (λ i i_in. ap (λ w. get_or w i 0) el ∙ get_or-drop a whole i 0) in
      ap₂ (λ m n. m + n) first second
      ∙ ap (λ n. moved f (word whole) a u x * n + moved f (λ i. word whole (a + i)) b v x) lows
      ∙ sym (moved_split f l (word whole) a b u v x (omega (arith, lows)))
      ∙ ap₂ (λ n d. moved f (word whole) d (u * n + v) x) (sym lows) all_digits
      ∙ column_moves f g columns made p digits inside all (u * h.lows + v) x
