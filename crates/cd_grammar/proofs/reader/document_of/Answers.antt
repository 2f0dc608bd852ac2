use Rattle.std.proofs.Common.{◌≡◌, ◌≢◌, ◌<◌, ◌^◌, List, ℕ, take, length, sym, ap, subst, ◌∙◌, arith}
use Rattle.std.specs.Prelude.{IsTrue, AllPairs}
use Rattle.std.specs.List.{list_all}
use Rattle.cd_meaning.specs.Numbered.{has_numbers_below}
use Rattle.cd_grammar.proofs.reader.document_of.Goals as goal

pub invariant_of-result : goal.invariant_of-result
invariant_of-result c =
    let classes : c.of.result ≡ c.args.known.classes = c.of.ensures ∙ c.in-Ok.ensures.value in
    let roles : c.of-2.result ≡ c.args.known.roles = c.of-2.ensures ∙ c.in-Ok-into_iris.ensures.value in
    let few_classes : length c.of.result < 2 ^ 32 = omega (arith, ap length classes, c.into_iris.ensures.few) in
    let few_roles : length c.of-2.result < 2 ^ 32 = omega (arith, ap length roles, c.into_iris-2.ensures.few) in
    record {
      numbered =
          subst (λ (n : ℕ). IsTrue (list_all (has_numbers_below n (length c.of-2.result)) c.args.known.axioms)) (ap length (sym classes))
          (subst (λ (n : ℕ). IsTrue (list_all (has_numbers_below (length c.args.known.classes) n) c.args.known.axioms)) (ap length (sym roles)) c.requires.numbered);
      few_classes = few_classes;
      few_roles = few_roles;
      reserved = ap (take 2) classes ∙ c.requires.reserved;
      distinct_classes = subst (λ (names : List (List ℕ)). AllPairs (λ a b. a ≢ b) names) (sym classes) c.requires.distinct_classes;
      distinct_roles = subst (λ (names : List (List ℕ)). AllPairs (λ a b. a ≢ b) names) (sym roles) c.requires.distinct_roles;
    }
