-- The set of all facts and the lists stay tied when a fact comes.
use Rattle.std.proofs.Common.{◌≡◌, ℕ, Bool, true, false, cond, ◌&&◌, ◌||◌, ◌==◌, List, [], ◌∷◌, ◌++◌, sym, ◌∙◌}
use Rattle.std.specs.Cmp.{IsEquivalence}
use Rattle.std.proofs.lemmas.List.Folds.{list_any-append}
use Rattle.cd_rules.specs.declared.facts.BackFact.{BackFact}
use Rattle.cd_rules.specs.declared.facts.DeadFact.{DeadFact}
use Rattle.cd_rules.specs.declared.facts.SureFact.{SureFact}
use Rattle.cd_context.specs.declared.facts.Fact.{Fact}
use Rattle.cd_context.specs.declared.facts.Fact.TheVariants.{Link, Back, Sure, Dead}
use Rattle.cd_context.specs.declared.facts.LinkFact.{LinkFact}
use Rattle.cd_context.specs.Facts.{same_key}
use Rattle.cd_context.specs.FactLists.{ByKind, Ties, is_among, same_fact}

-- the new set has the fact, and otherwise what the old one had
abbrev pub Gains : List Fact → Fact → List Fact → Type 0
Gains all fact all_new = (q : Fact) → is_among all_new q ≡ cond (same_fact fact q) true (is_among all q)

joined : (b d l m n : Bool) → b ≡ d → l ≡ m → n ≡ (m || (d || false)) → cond b true l ≡ n
joined true true l true n e f g = sym g
joined true true l false n e f g = sym g
joined true false l m n e f g = cc
joined false true l m n e f g = cc
joined false false l true n e f g = f ∙ sym g
joined false false l false n e f g = f ∙ sym g

module _ (laws : IsEquivalence same_fact) (all all_new : List Fact) (lists : ByKind) (t : Ties all lists) where
  pub ties_link : (k : List ℕ) (r : ℕ) → Gains all (Link k r) all_new → Ties all_new (record { links = lists.links ++ (record { key = k; role = r }) ∷ []; backs = lists.backs; sures = lists.sures; deads = lists.deads })
  ties_link k r u = record {
    of_link = λ h s. u (Link h s) ∙ joined (same_fact (Link k r) (Link h s)) (same_key h k && s == r) _ _ _ (laws.symm (Link k r) (Link h s)) (t.of_link h s)
        (list_any-append (λ (f : LinkFact). same_key h f.key && s == f.role) lists.links ((record { key = k; role = r }) ∷ []));
    of_back = λ s h b. u (Back s h b) ∙ t.of_back s h b;
    of_sure = λ s h b. u (Sure s h b) ∙ t.of_sure s h b;
    of_dead = λ s h. u (Dead s h) ∙ t.of_dead s h;
  }

  pub ties_back : (r : ℕ) (k : List ℕ) (a : ℕ) → Gains all (Back r k a) all_new → Ties all_new (record { links = lists.links; backs = lists.backs ++ (record { role = r; key = k; atom = a }) ∷ []; sures = lists.sures; deads = lists.deads })
  ties_back r k a u = record {
    of_link = λ h s. u (Link h s) ∙ t.of_link h s;
    of_back = λ s h b. u (Back s h b) ∙ joined (same_fact (Back r k a) (Back s h b)) (s == r && (same_key h k && b == a)) _ _ _ (laws.symm (Back r k a) (Back s h b)) (t.of_back s h b)
        (list_any-append (λ (f : BackFact). s == f.role && (same_key h f.key && b == f.atom)) lists.backs ((record { role = r; key = k; atom = a }) ∷ []));
    of_sure = λ s h b. u (Sure s h b) ∙ t.of_sure s h b;
    of_dead = λ s h. u (Dead s h) ∙ t.of_dead s h;
  }

  pub ties_sure : (r : ℕ) (k : List ℕ) (a : ℕ) → Gains all (Sure r k a) all_new → Ties all_new (record { links = lists.links; backs = lists.backs; sures = lists.sures ++ (record { role = r; key = k; atom = a }) ∷ []; deads = lists.deads })
  ties_sure r k a u = record {
    of_link = λ h s. u (Link h s) ∙ t.of_link h s;
    of_back = λ s h b. u (Back s h b) ∙ t.of_back s h b;
    of_sure = λ s h b. u (Sure s h b) ∙ joined (same_fact (Sure r k a) (Sure s h b)) (s == r && (same_key h k && b == a)) _ _ _ (laws.symm (Sure r k a) (Sure s h b)) (t.of_sure s h b)
        (list_any-append (λ (f : SureFact). s == f.role && (same_key h f.key && b == f.atom)) lists.sures ((record { role = r; key = k; atom = a }) ∷ []));
    of_dead = λ s h. u (Dead s h) ∙ t.of_dead s h;
  }

  pub ties_dead : (r : ℕ) (k : List ℕ) → Gains all (Dead r k) all_new → Ties all_new (record { links = lists.links; backs = lists.backs; sures = lists.sures; deads = lists.deads ++ (record { role = r; key = k }) ∷ [] })
  ties_dead r k u = record {
    of_link = λ h s. u (Link h s) ∙ t.of_link h s;
    of_back = λ s h b. u (Back s h b) ∙ t.of_back s h b;
    of_sure = λ s h b. u (Sure s h b) ∙ t.of_sure s h b;
    of_dead = λ s h. u (Dead s h) ∙ joined (same_fact (Dead r k) (Dead s h)) (s == r && same_key h k) _ _ _ (laws.symm (Dead r k) (Dead s h)) (t.of_dead s h)
        (list_any-append (λ (f : DeadFact). s == f.role && same_key h f.key) lists.deads ((record { role = r; key = k }) ∷ []));
  }
