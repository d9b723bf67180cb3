use Rattle.std.proofs.Common.{Ok, Err, rules}
use Rattle.refusal.specs.declared.Refusal.TheVariants.{Length, RowsHeld}
use Rattle.code.proofs.Leading.{length_goes_on}
use Rattle.code.proofs.draft.Draft.set_length.Goals as goal

pub returns-then-n-eq0-clause-follows : goal.returns-then-n-eq0-clause-follows
returns-then-n-eq0-clause-follows g c = length_goes_on _ _ _ _ (Err (Length c.args.n)) (search rules)

pub returns-then-rows-gt0-clause-follows : goal.returns-then-rows-gt0-clause-follows
returns-then-rows-gt0-clause-follows g c = length_goes_on _ _ _ _ (Err (RowsHeld c.count-rows.result)) (search rules)

pub returns-clause-follows : goal.returns-clause-follows
returns-clause-follows g c = length_goes_on _ _ _ _ (Ok tt) (search rules)
