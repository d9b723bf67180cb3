-- The branches of a place.
use Rattle.std.specs.Prelude.{◌≡◌, ℕ, ◌+◌, ◌*◌, ◌<◌, List, [], length, slice_index, slice_index_or}
use Rattle.least.specs.Paths.{Trellis}
use Rattle.trellis.specs.declared.branch.Branch.{Branch}

-- a branch that costs nothing and leads nowhere
abbrev pub no_branch : Branch
no_branch = record { price = 0; high = []; low = [] }

-- where a branch leads from the state of the upper half u and the lower half v
abbrev pub lead : Branch → ℕ → ℕ → ℕ
lead b u v = slice_index b.high u + slice_index b.low v

-- b is what the symbol x does at the place i
pub record Does (t : Trellis) (i highs lows x : ℕ) (b : Branch) : Type 0 where
  pub price : b.price ≡ t.cost i x
  pub leads : (u v : ℕ) → u < highs → v < lows → lead b u v ≡ t.next i (u * lows + v) x

-- the branches of the first symbols of the trellis at the place i, as many as there are
abbrev pub Branched : Trellis → ℕ → ℕ → ℕ → List Branch → Type 0
Branched t i highs lows branches = (x : ℕ) → x < length branches → Does t i highs lows x (slice_index_or branches x no_branch)
