-- Check places, check rows, and the syndrome of a word, for m systematic rows of length n.
use Rattle.std.specs.Prelude.{ℕ, zero, suc, ◌+◌, ◌*◌, Bool, true, false, cond, List, [], ◌∷◌, ◌++◌, ◌==◌, slice_index}
use Rattle.field.specs.Field.{Ops}
use Rattle.algebra.specs.Words.{total}

-- whether p is one of the first m information places
abbrev pub informs : (ℕ → ℕ) → ℕ → ℕ → Bool
informs at zero p = false
informs at (suc m) p = cond (at m == p) true (informs at m p)

-- the check places: those below n that are no information places, ascending
abbrev pub check_places : (ℕ → ℕ) → ℕ → ℕ → List ℕ
check_places at m zero = []
check_places at m (suc p) = check_places at m p ++ cond (informs at m p) [] (p ∷ [])

abbrev pub check_place : (ℕ → ℕ) → ℕ → ℕ → ℕ → ℕ
check_place at m n i = slice_index (check_places at m n) i

-- v j at the information place of the row j, and 0 at every other place
abbrev pub at_information : (ℕ → ℕ) → ℕ → (ℕ → ℕ) → ℕ → ℕ
at_information at zero v k = 0
at_information at (suc m) v k = cond (at m == k) (v m) (at_information at m v k)

-- The check row of the check place p: 1 at p, 0 at the other check places, and at the information
-- place of the row j the negative of that row's symbol at p.
abbrev pub check_row : Ops → ℕ → (ℕ → ℕ → ℕ) → (ℕ → ℕ) → ℕ → ℕ → ℕ
check_row f m rs at p k = cond (k == p) 1 (at_information at m (λ j. f.negative (rs j p)) k)

-- Symbol i of the syndrome of w: the sum of the products of w with check row i, place by place.
abbrev pub syndrome : Ops → ℕ → ℕ → (ℕ → ℕ → ℕ) → (ℕ → ℕ) → (ℕ → ℕ) → ℕ → ℕ
syndrome f n m rs at w i = total f (λ k. f.product (w k) (check_row f m rs at (check_place at m n i) k)) n

-- The first c symbols of s as one number in base q, the first symbol most significant.
abbrev pub index : ℕ → (ℕ → ℕ) → ℕ → ℕ
index q s zero = 0
index q s (suc c) = index q s c * q + s c
