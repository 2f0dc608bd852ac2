-- A relation that decides what a document entails.
use Rattle.std.proofs.Common.{ℕ, ◌<◌, Bool, length, ap, arith, length-take}
use Rattle.std.proofs.lemmas.Bool.{both_ways}
use Rattle.cd_meaning.specs.declared.expression.Expr.TheVariants.{Name}
use Rattle.cd_meaning.specs.declared.document.Document.{Document}
use Rattle.cd_meaning.specs.Answer.{Decides}
use Rattle.cd_meaning.specs.Membership.{member}
use Rattle.cd_meaning.specs.MembershipTable.{member-Name}
use Rattle.cd_taxonomy.specs.Relation.{IsSubsumption}

-- what decides entailment is a subsumption
pub subsumption : (document : Document) (below : ℕ → ℕ → Bool) → Decides document below → IsSubsumption (length document.classes) below
subsumption document below decided =
    let two : 1 < length document.classes = omega (arith, length-take 2 document.classes, ap length document.reserved) in
    record {
      reflexive = λ a lt. (decided a a lt lt).1 (λ i model x l h. h);
      transitive = λ a b c la lb lc h k. (decided a c la lc).1 (λ i model x l d. (decided b c lb lc).0 k i model x l ((decided a b la lb).0 h i model x l d));
      thing = λ a lt. (decided a 0 lt (omega (arith, two))).1 (λ i model x l h. member-Name i x 0);
      nothing = λ a lt. (decided 1 a two lt).1 (λ i model x l h. absurd (both_ways (member i (Name 1) x) (member-Name i x 1) h));
    }
