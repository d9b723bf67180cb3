-- What has one answer at most, told of another relation.
use Rattle.std.proofs.Common.{Some, None, Option}
use Rattle.notation.specs.Only.{Only}

pub only_along : {X : Type 0} (P Q : X → Type 0) → ((y : X) → P y → Q y) → ((y : X) → Q y → P y) → (o : Option X) → Only P o → Only Q o
only_along P Q to from (Some x) h = (to x h.0, λ y q. h.1 y (from y q))
only_along P Q to from None h = λ y q. h y (from y q)
