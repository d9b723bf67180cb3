-- The least weight of a codeword that is not all 0, from the least cost of such a word.
use Rattle.std.proofs.Common.{◌≡◌, ℕ, ◌<◌, Option, Some, None, sym, ap, subst, arith}
use Rattle.std.proofs.lemmas.Bool.{cond_both}
use Rattle.field.specs.Field.{Ops, Laws}
use Rattle.generator.specs.declared.Generator.{Generator}
use Rattle.generator.specs.Parts.{size}
use Rattle.least.specs.Least.{best_other}
use Rattle.cheapest.specs.Lightest.{Lightest, weights}
use Rattle.cheapest.specs.Trellises.{trellis_of}
use Rattle.cheapest.proofs.Weighing.{lightest_none, lightest_some}
use Rattle.trellis.specs.declared.cost.Least.{Least}
use Rattle.trellis.specs.Leasts.{ways_of, told}

abbrev pub weight_of : Option Least → Option ℕ
weight_of None = None
weight_of (Some l) = Some l.cost

some_way : (l : Least) → 0 < ways_of l
some_way l = cond_both l.sole 1 2 (λ n. 0 < n) (λ _. omega arith) (λ _. omega arith)

pub lightest_told : (f : Ops) → Laws f → (g : Generator) (o : Option Least) → told o ≡ best_other (trellis_of f g (weights g) 0) (size g) 0 → Lightest f g (weight_of o)
lightest_told f l g None e = lightest_none f l g (sym (ap (λ r. r.1) e))
lightest_told f l g (Some least) e = subst (λ d. Lightest f g (Some d)) (sym (ap (λ r. r.0) e)) (lightest_some f l g (omega (arith, ap (λ r. r.1) e, some_way least)))
