use Rattle.std.proofs.Common.{rules, ◌≡◌, ℕ, List, [], ◌∷◌, ◌++◌, sym, ap, ◌∙◌, append_assoc, take}
use Rattle.std.specs.List.{flat_map}
use Rattle.std.proofs.lemmas.Result.{on_ok_weaker}
use Rattle.std.proofs.lemmas.List.{take_all}
use Rattle.cd_meaning.specs.declared.expression.Expr.{Expr}
use Rattle.cd_meaning.specs.declared.expression.Expr.TheVariants.{Meet, Join, Minus, SomeOf, AllOf}
use Rattle.cd_normal.specs.Codes.{code}
use Rattle.cd_normal.proofs.ToldApart.{code-Meet, code-Join, code-Minus, code-SomeOf, code-AllOf}
use Rattle.cd_normal.proofs.codes.+write_code.Goals as goal

module _ (e d : Expr) (out mid new front : List ℕ) (before : mid ≡ out ++ front) (is : e ≡ d) where
  written : (back : List ℕ) → code d ≡ front ++ back → new ≡ mid ++ back → new ≡ out ++ code e
  written back whole after = after ∙ ap (λ l. l ++ back) before ∙ append_assoc out front back ∙ ap (λ l. out ++ l) (sym whole ∙ ap code (sym is))

  written_part : (given part : Expr) → given ≡ part → code d ≡ front ++ code part → new ≡ mid ++ code given → new ≡ out ++ code e
  written_part given part same whole after = written (code part) whole (after ∙ ap (λ p. mid ++ code p) same)

  written_parts : (given parts : List Expr) → given ≡ parts → code d ≡ front ++ (flat_map code parts ++ 6 ∷ []) → new ≡ mid ++ (flat_map code given ++ 6 ∷ []) → new ≡ out ++ code e
  written_parts given parts same whole after = written (flat_map code parts ++ 6 ∷ []) whole (after ∙ ap (λ p. mid ++ (flat_map code p ++ 6 ∷ [])) same)

pub write_code-returns-in_ok-push-in-Meet : goal.write_code-returns-in_ok-push-in-Meet
write_code-returns-in_ok-push-in-Meet t c = on_ok_weaker c.write_codes.result
    (written_parts c.args.e.now (Meet c.in-Meet.parts) c.args.out.now.items c.push.new.self.items c.write_codes.new.out.items (1 ∷ []) (search rules) (search rules) c.as_slice.result.now c.in-Meet.parts (search rules) (code-Meet c.in-Meet.parts))
    c.write_codes.ensures

pub write_code-returns-in_ok-push-in-Join : goal.write_code-returns-in_ok-push-in-Join
write_code-returns-in_ok-push-in-Join t c = on_ok_weaker c.write_codes-in-Join.result
    (written_parts c.args.e.now (Join c.in-Join.parts) c.args.out.now.items c.push-in-Join.new.self.items c.write_codes-in-Join.new.out.items (2 ∷ []) (search rules) (search rules) c.as_slice-in-Join.result.now c.in-Join.parts (search rules) (code-Join c.in-Join.parts))
    c.write_codes-in-Join.ensures

pub write_code-returns-in_ok-push-in-Minus : goal.write_code-returns-in_ok-push-in-Minus
write_code-returns-in_ok-push-in-Minus t c = on_ok_weaker c.write_code.result
    (written_part c.args.e.now (Minus c.in-Minus.part) c.args.out.now.items c.push-in-Minus.new.self.items c.write_code.new.out.items (3 ∷ []) (search rules) (search rules) c.get.result.now c.in-Minus.part (search rules) (code-Minus c.in-Minus.part))
    c.write_code.ensures

pub write_code-returns-in_ok-write_two-in-SomeOf : goal.write_code-returns-in_ok-write_two-in-SomeOf
write_code-returns-in_ok-write_two-in-SomeOf t c = on_ok_weaker c.write_code-in-SomeOf.result
    (written_part c.args.e.now (SomeOf c.in-SomeOf.role c.in-SomeOf.part) c.args.out.now.items c.write_two-in-SomeOf.new.out.items c.write_code-in-SomeOf.new.out.items (4 ∷ c.in-SomeOf.role ∷ []) (search rules) (search rules) c.get-in-SomeOf.result.now c.in-SomeOf.part (search rules) (code-SomeOf c.in-SomeOf.role c.in-SomeOf.part))
    c.write_code-in-SomeOf.ensures

pub write_code-returns-in_ok-write_two-in-AllOf : goal.write_code-returns-in_ok-write_two-in-AllOf
write_code-returns-in_ok-write_two-in-AllOf t c = on_ok_weaker c.write_code-in-AllOf.result
    (written_part c.args.e.now (AllOf c.in-AllOf.role c.in-AllOf.part) c.args.out.now.items c.write_two-in-AllOf.new.out.items c.write_code-in-AllOf.new.out.items (5 ∷ c.in-AllOf.role ∷ []) (search rules) (search rules) c.get-in-AllOf.result.now c.in-AllOf.part (search rules) (code-AllOf c.in-AllOf.role c.in-AllOf.part))
    c.write_code-in-AllOf.ensures

pub write_codes-returns : goal.write_codes-returns
write_codes-returns t c =
    let all : take c.loop-part.part-index c.args.parts.now ≡ c.args.parts.now = take_all c.loop-part.part-index c.args.parts.now c.loop-part-test.false in
    let pushed : c.push.new.self.items ≡ c.loop-part.out.items ++ 6 ∷ [] = search rules in
    pushed ∙ ap (λ l. l ++ 6 ∷ []) c.loop-part.invariant
    ∙ append_assoc c.args.out.now.items (flat_map code (take c.loop-part.part-index c.args.parts.now)) (6 ∷ [])
    ∙ ap (λ (l : List Expr). c.args.out.now.items ++ (flat_map code l ++ 6 ∷ [])) all
