-- A trellis, and the words that lead over its states.
use Rattle.std.specs.Prelude.{◌≡◌, ℕ, zero, suc, ◌+◌, ◌<◌, List, [], ◌∷◌}

-- A symbol leads from a state at a place to a state at the place after it, at a cost. The words that
-- count are those of symbols below `symbols` that end in the state `target`.
pub record Trellis : Type 0 where
  pub next : ℕ → ℕ → ℕ → ℕ
  pub cost : ℕ → ℕ → ℕ
  pub symbols : ℕ
  pub target : ℕ

-- the words of k symbols that lead from the state s at the place i to the target
abbrev pub Leads : Trellis → ℕ → ℕ → ℕ → List ℕ → Type 0
Leads t zero i s [] = s ≡ t.target
Leads t zero i s (x ∷ w) = ⊥
Leads t (suc k) i s [] = ⊥
Leads t (suc k) i s (x ∷ w) = (x < t.symbols) × Leads t k (i + 1) (t.next i s x) w

-- those of them that begin in the state 0 and are not all 0
abbrev pub LeadsOther : Trellis → ℕ → ℕ → List ℕ → Type 0
LeadsOther t zero i w = ⊥
LeadsOther t (suc k) i [] = ⊥
LeadsOther t (suc k) i (zero ∷ w) = (0 < t.symbols) × LeadsOther t k (i + 1) w
LeadsOther t (suc k) i (suc x ∷ w) = (suc x < t.symbols) × Leads t k (i + 1) (t.next i 0 (suc x)) w

-- what the symbols of a word cost, the first of them at the place i
abbrev pub path_cost : Trellis → ℕ → List ℕ → ℕ
path_cost t i [] = 0
path_cost t i (x ∷ w) = t.cost i x + path_cost t (i + 1) w
