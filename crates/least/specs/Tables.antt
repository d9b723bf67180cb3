-- Least costs as they stand in the words of a table, and what is read off them.
use Rattle.std.specs.Prelude.{◌≡◌, ℕ, ◌+◌, ◌-◌, ◌*◌, ◌<◌, ◌≤◌, List, ◌≢◌, slice_index}
use Rattle.least.specs.Paths.{Trellis}
use Rattle.least.specs.Least.{best_of, best}

-- the row of the place i, from which k symbols are left, for the states below m: from the word a on the least costs, and from the word b on the ways
pub record Row (t : Trellis) (k i m a b : ℕ) (words : List ℕ) : Type 0 where
  pub costs : (s : ℕ) → s < m → slice_index words (a + s) ≡ (best t k i s).0
  pub ways : (s : ℕ) → s < m → slice_index words (b + s) ≡ (best t k i s).1

-- the rows of the places from `from` to n for m states, each with its costs and then its ways, one place after the other
pub record Table (t : Trellis) (m n from : ℕ) (words : List ℕ) : Type 0 where
  pub rows : (i : ℕ) → from ≤ i → i ≤ n → Row t (n - i) i m (i * (m + m)) (i * (m + m) + m) words

-- what the symbol x costs at the state s of the place i, with all after it, by the costs from the word a on
abbrev pub via_cost : Trellis → List ℕ → ℕ → ℕ → ℕ → ℕ → ℕ
via_cost t words a i s x = t.cost i x + slice_index words (a + t.next i s x)

-- in how many ways, by the ways from the word b on
abbrev pub via_ways : Trellis → List ℕ → ℕ → ℕ → ℕ → ℕ → ℕ
via_ways t words b i s x = slice_index words (b + t.next i s x)

-- the least over the symbols below y, by the row of the place after it
abbrev pub reached : Trellis → List ℕ → ℕ → ℕ → ℕ → ℕ → ℕ → ℕ × ℕ
reached t words a b i s y = best_of (via_cost t words a i s) (via_ways t words b i s) y

-- x is the largest of the symbols below `order` that have a way and cost so much
pub record Picked (order : ℕ) (cost ways : ℕ → ℕ) (least x : ℕ) : Type 0 where
  pub symbol : x < order
  pub live : 0 < ways x
  pub paid : cost x ≡ least
  pub largest : (y : ℕ) → x < y → y < order → 0 < ways y → cost y ≢ least
