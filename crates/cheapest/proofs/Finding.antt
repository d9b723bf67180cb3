-- What a table and a traced word say of a coset.
use Rattle.std.proofs.Common.{◌≡◌, ℕ, zero, suc, ◌<◌, false, eqb, ◌⊎◌, List, length, sym, ap, ◌∙◌, inl, inr, ⊎_elim, arith}
use Rattle.std.proofs.lemmas.Bool.{ne_eqb}
use Rattle.field.specs.Field.{Ops, Laws}
use Rattle.algebra.specs.Words.{word}
use Rattle.generator.specs.declared.Generator.{Generator}
use Rattle.generator.specs.Parts.{size}
use Rattle.cosets.specs.States.{cosets}
use Rattle.cosets.specs.Cosets.{Coset}
use Rattle.cosets.proofs.Codewords.{coset_some}
use Rattle.reception.specs.Costs.{Costs}
use Rattle.least.specs.Paths.{Trellis, Leads, path_cost}
use Rattle.least.specs.Least.{best}
use Rattle.least.proofs.Telling.{Tells}
use Rattle.least.proofs.Recursion.{best_tells, some_way, no_less}
use Rattle.least.proofs.Tracing.{Before}
use Rattle.cheapest.specs.Trellises.{trellis_of}
use Rattle.cheapest.specs.Cheapest.{Same, Cheapest, Sole}
use Rattle.cheapest.proofs.Wording.{listed, listed_word, leads_long, word_leads, leads_word, listed_cost, path_word}

module _ (f : Ops) (l : Laws f) (g : Generator) (costs : Costs) (target : ℕ) where
  abbrev t : Trellis
  t = trellis_of f g costs target

  abbrev n : ℕ
  n = size g

  -- some word leads to the target
  pub live : target < cosets f g → 0 < (best t n 0 0).1
  live h = let o = coset_some f l g target h in some_way t n 0 0 (listed n o.0) (word_leads f l g costs target o.0 o.1)

  -- the list of a word of the coset
  leads : (v : ℕ → ℕ) → Coset f g target v → Leads t n 0 0 (listed n v)
  leads = word_leads f l g costs target

  back : (v : ℕ → ℕ) → Coset f g target v → Same (word (listed n v)) v
  back v inside = listed_word n v inside.0.1

  module _ (p : List ℕ) (led : Leads t n 0 0 p) (paid : path_cost t 0 p ≡ (best t n 0 0).0) where
    long : length p ≡ n
    long = leads_long t n 0 0 p led

    pub cheapest : ((v : List ℕ) → Leads t n 0 0 v × (path_cost t 0 v ≡ (best t n 0 0).0) → (v ≡ p) ⊎ Before v p) → (c : ℕ) → c ≡ (best t n 0 0).0 → Cheapest f g costs target (word p) c
    cheapest last c is = record {
      inside = leads_word f l g costs target p led;
      cost = sym (path_word f l g costs target p long) ∙ paid ∙ sym is;
      least = λ v inside. omega (arith, no_less t n 0 0 (listed n v) (leads v inside), listed_cost f l g costs target v);
      largest = λ v inside e. ⊎_elim
          (λ same. inl (λ k. sym (back v inside k) ∙ ap (λ w. word w k) same))
          (λ b. inr (b.0, (λ j h. sym (back v inside j) ∙ b.2 j h), omega (arith, back v inside b.0, b.3)))
          (last (listed n v) (leads v inside, listed_cost f l g costs target v ∙ e ∙ is));
    }

    -- a word that comes before p differs from it
    differs : (v : List ℕ) → Before v p → Same (word v) (word p) → ⊥
    differs v b same = omega (arith, b.3, same b.0)

    sole_of : ((v : List ℕ) → Leads t n 0 0 v × (path_cost t 0 v ≡ (best t n 0 0).0) → (v ≡ p) ⊎ Before v p) → (ways : ℕ) → Tells (Leads t n 0 0) (path_cost t 0) (best t n 0 0).0 ways → 0 < ways → Sole f g costs target (word p) (best t n 0 0).0 (eqb ways 1)
    sole_of last zero told h = absurd (omega arith)
    sole_of last (suc zero) told h = λ v inside e k.
        let one = told.1.1.2 in
        let same : listed n v ≡ p = one (listed n v) (leads v inside) (listed_cost f l g costs target v ∙ e) ∙ sym (one p led paid) in
        sym (back v inside k) ∙ ap (λ w. word w k) same
    sole_of last (suc (suc m)) told h =
        let a = told.1.0 in
        let b = told.1.1.0 in
        let o = told.1.1.1 in
        let other : (v : List ℕ) → Leads t n 0 0 v → path_cost t 0 v ≡ (best t n 0 0).0 → Before v p → Sole f g costs target (word p) (best t n 0 0).0 false = λ v in_v e before.
        (word v, leads_word f l g costs target v in_v, sym (path_word f l g costs target v (leads_long t n 0 0 v in_v)) ∙ e, differs v before) in
        rw (ne_eqb (suc (suc m)) 1 (omega arith))
        (⊎_elim
        (λ is. ⊎_elim (λ also. absurd (o.4 (is ∙ sym also))) (other b o.1 o.3) (last b (o.1, o.3)))
        (other a o.0 o.2)
        (last a (o.0, o.2)))

    pub sole : ((v : List ℕ) → Leads t n 0 0 v × (path_cost t 0 v ≡ (best t n 0 0).0) → (v ≡ p) ⊎ Before v p) → (c ways : ℕ) → c ≡ (best t n 0 0).0 → ways ≡ (best t n 0 0).1 → 0 < ways → Sole f g costs target (word p) c (eqb ways 1)
    sole last c ways is count h = rw (is, count) (sole_of last (best t n 0 0).1 (best_tells t n 0 0) (omega arith))
