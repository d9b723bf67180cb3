-- What the drafts and codes of every field are made of.
use Rattle.basis.specs.declared.Basis.{Basis}
use Rattle.generator.specs.declared.Generator.{Generator}
use Rattle.tally.specs.declared.Tally.{Tally}
use Rattle.code.specs.declared.draft.Draft.{Draft}
use Rattle.code.specs.declared.sealed.Code.{Code}

-- the basis that a draft keeps for its rows
abbrev pub basis_of : {F : Type 0} → Draft F → Basis
basis_of d = d.basis

-- the generator of a code
abbrev pub generator_of : {F : Type 0} → Code F → Generator
generator_of c = c.generator

-- its tally
abbrev pub tally_of : {F : Type 0} → Code F → Tally
tally_of c = c.tally
