-- What is written for a check row has its 1, its negatives and its 0s in their places.
use Rattle.std.proofs.Common.{◌≡◌, ℕ, ◌+◌, ◌<◌, List, ◌∙◌}
use Rattle.field.specs.Field.{Ops, Laws}
use Rattle.algebra.specs.Words.{word}
use Rattle.algebra.proofs.Checks.{informs_none, check_place_at, check_row_own, check_row_information, check_row_other}
use Rattle.generator.specs.declared.Generator.{Generator}
use Rattle.generator.specs.Parts.{size, dimension, rows_of, places_of, check_place_of, check_row_of}
use Rattle.generator.proofs.Systematics.{systematic, inside}
use Rattle.code.specs.Codes.{CheckRow}

pub check_row_read : (f : Ops) → Laws f → (g : Generator) (i : ℕ) (out : List ℕ) → i + dimension g < size g → ((k : ℕ) → k < size g → word out k ≡ check_row_of f g (check_place_of g i) k) → CheckRow f g i out
check_row_read f l g i out h is =
    let m = dimension g in
    let rs : ℕ → ℕ → ℕ = rows_of f g in
    let at : ℕ → ℕ = places_of g in
    let p : ℕ = check_place_of g i in
    let up = (systematic f l g).ascends in
    let here = check_place_at at m (size g) up (inside g) i h in
    record {
      is = is;
      own = is p here.0 ∙ check_row_own f m rs at p;
      information = λ j b. is (at j) (inside g j b) ∙ check_row_information f m rs at up p here.1 j b;
      others = λ k b ne none. is k b ∙ check_row_other f m rs at p k ne (informs_none at m k none);
    }
