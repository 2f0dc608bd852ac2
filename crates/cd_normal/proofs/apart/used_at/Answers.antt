use Rattle.std.proofs.Common.{rules, ◌≡◌, ◌<◌, ◌+◌, ℕ, false, List, [], ◌∷◌, ◌++◌, length, map, get_or, sym, ap, ◌∙◌, arith}
use Rattle.std.proofs.lemmas.List.{get_or_read, get_or-map, length-map, length_push}
use Rattle.cd_meaning.specs.declared.expression.Expr.{Expr}
use Rattle.cd_meaning.specs.declared.expression.Expr.TheVariants.{Name}
use Rattle.cd_normal.specs.Operands.{operand}
use Rattle.cd_normal.proofs.Growth.{grown_none, grown_each, room_each}
use Rattle.cd_normal.proofs.Making.{each_none, each_step}
use Rattle.cd_normal.proofs.apart.used_at.Goals as goal

-- the operand that is read, as one of those at the places
at_place : (l : List Expr) (places : List ℕ) (i : ℕ) (e : Expr) → i < length places → get_or places i 0 < length l → e ≡ get_or l (get_or places i 0) e
    → (i < length (map (operand l) places)) × (e ≡ get_or (map (operand l) places) i e)
at_place l places i e lt inside at = (
  (let n = length-map places (operand l) in omega (arith, n, lt)),
  get_or_read l (get_or places i 0) e inside at (Name 0) ∙ sym (get_or-map (operand l) places i 0 e lt),
)

pub loop-place-init : goal.loop-place-init
loop-place-init c = record {
  is_use = each_none c.args.classes c.args.maker.now false c.new-made.result.items (search rules);
  same_length = search rules;
  grown = grown_none c.args.maker.now c.args.maker.now false;
}

pub used-requires-clause-few : goal.used-requires-clause-few
used-requires-clause-few c =
    let w = at_place c.args.operands.now c.args.places.now c.loop-place.place-index c.index-operands-place.result c.loop-place-test.true (c.requires.inside c.loop-place.place-index 0 c.loop-place-test.true) c.index-operands-place.is in
    room_each c.args.maker.now c.loop-place.maker c.loop-place.maker false (map (operand c.args.operands.now) c.args.places.now) c.loop-place.place-index c.index-operands-place.result w.0 w.1 c.requires.few c.loop-place.invariant.grown

pub loop-place-preserved : goal.loop-place-preserved
loop-place-preserved c =
    let e = c.index-operands-place.result in
    let i = c.loop-place.place-index in
    let parts = map (operand c.args.operands.now) c.args.places.now in
    let w = at_place c.args.operands.now c.args.places.now i e c.loop-place-test.true (c.requires.inside i 0 c.loop-place-test.true) c.index-operands-place.is in
    let pushed : c.push.new.self.items ≡ c.loop-place.made.items ++ c.in_ok-x.x ∷ [] = search rules in
    record {
      is_use = each_step c.args.classes c.args.maker.now c.loop-place.maker c.used.new.maker false false parts i e c.loop-place.made.items c.in_ok-x.x c.push.new.self.items
          w.0 w.1 pushed c.loop-place.invariant.is_use c.in_ok-x.ensures.is_use;
      same_length = ap length pushed ∙ length_push c.loop-place.made.items c.in_ok-x.x ∙ ap (λ (n : ℕ). n + 1) c.loop-place.invariant.same_length;
      grown = grown_each c.args.maker.now c.loop-place.maker c.used.new.maker false parts i e w.0 w.1 c.loop-place.invariant.grown c.in_ok-x.ensures.grown;
    }
