use Rattle.std.proofs.Common.{◌≡◌, ◌*◌, ℕ, false, List, [], length, map, sum_by, sym, ap, ◌∙◌, subst, arith}
use Rattle.std.proofs.lemmas.List.{length-map}
use Rattle.std.proofs.lemmas.Result.{IfOk-weaker}
use Rattle.cd_meaning.specs.declared.expression.Expr.{Expr}
use Rattle.cd_meaning.specs.Nodes.{nodes_of}
use Rattle.cd_nnf.specs.Nnf.{nnf}
use Rattle.cd_normal.specs.Made.{IsUseEach, IsGiven, IsGrown, IsGrownBy}
use Rattle.cd_normal.specs.NormalForm.{Kept, Apart, GivesApart}
use Rattle.cd_normal.specs.Operands.{operand}
use Rattle.cd_normal.proofs.ApartOperands.{given_apart, grown_apart, room_for_uses, room_for_chain}
use Rattle.cd_normal.proofs.apart.apart.Goals as goal

-- what is known of the places, said of the operands there
kept_at : (l : List Expr) (places read : List ℕ) → read ≡ places → Kept [] l (map (operand l) places) → Kept [] l (map (operand l) read)
kept_at l places read is k = subst (λ p. Kept [] l (map (operand l) p)) (sym is) k

pub used_at-requires-clause-few : goal.used_at-requires-clause-few
used_at-requires-clause-few c =
    let l = c.args.operands.now in
    room_for_uses c.args.maker.now.next l (map (operand l) c.deref.result.now) (kept_at l c.in_ok-places.places.items c.deref.result.now c.deref.ensures.value c.in_ok-places.ensures.kept) c.requires.few

pub chain-requires-clause-room : goal.chain-requires-clause-room
chain-requires-clause-room c =
    let l = c.args.operands.now in
    let kept = map (operand l) c.deref.result.now in
    let long = length-map c.deref.result.now (operand l) in
    let room = room_for_chain c.args.maker.now c.used_at.new.maker l kept (length c.deref.result.now) (kept_at l c.in_ok-places.places.items c.deref.result.now c.deref.ensures.value c.in_ok-places.ensures.kept) (sym long) c.requires.few c.in_ok-xs.ensures.grown in
    let same = c.in_ok-xs.ensures.same_length in
    let read = ap length c.deref-2.ensures.value in
    omega (arith, room, same, read)

pub returns-clause-given : goal.returns-clause-given
returns-clause-given c =
    let l = c.args.operands.now in
    let kept = map (operand l) c.deref.result.now in
    let xs = c.deref-2.result.now in
    let long : length kept ≡ length c.deref.result.now = length-map c.deref.result.now (operand l) in
    let all : length kept ≡ length xs = long ∙ sym c.in_ok-xs.ensures.same_length ∙ sym (ap length c.deref-2.ensures.value) in
    let uses : IsUseEach c.args.classes c.args.maker.now c.used_at.new.maker false (map nnf kept) xs
    = subst (IsUseEach c.args.classes c.args.maker.now c.used_at.new.maker false (map nnf kept)) (sym c.deref-2.ensures.value) c.in_ok-xs.ensures.is_use in
    let is = kept_at l c.in_ok-places.places.items c.deref.result.now c.deref.ensures.value c.in_ok-places.ensures.kept in
    IfOk-weaker c.chain.result
    (λ done. (classes k : ℕ) (es : List Expr) → length es ≡ length xs → IsGiven classes c.used_at.new.maker c.chain.new.maker (λ Fresh axs. Apart classes Fresh k es xs axs))
    (λ done. (k : ℕ) → IsGiven c.args.classes c.args.maker.now c.chain.new.maker (λ Fresh axs. GivesApart c.args.classes Fresh k l axs))
    (λ done h k. given_apart c.args.classes k c.args.maker.now c.used_at.new.maker c.chain.new.maker l kept xs is (omega arith) all uses (h c.args.classes k kept all))
    c.chain.ensures.given

pub returns-clause-grown : goal.returns-clause-grown
returns-clause-grown c =
    let l = c.args.operands.now in
    let kept = map (operand l) c.deref.result.now in
    let xs = c.deref-2.result.now in
    let long : length kept ≡ length c.deref.result.now = length-map c.deref.result.now (operand l) in
    let same : length xs ≡ length c.deref.result.now = ap length c.deref-2.ensures.value ∙ c.in_ok-xs.ensures.same_length in
    let is = kept_at l c.in_ok-places.places.items c.deref.result.now c.deref.ensures.value c.in_ok-places.ensures.kept in
    IfOk-weaker c.chain.result
    (λ done. IsGrown c.used_at.new.maker c.chain.new.maker (length xs) (3 * length xs))
    (λ done. IsGrown c.args.maker.now c.chain.new.maker (3 * sum_by nodes_of l) (6 * sum_by nodes_of l))
    (λ done h. grown_apart c.args.maker.now c.used_at.new.maker c.chain.new.maker l kept (length xs) is (same ∙ sym long)
    (subst (λ n. IsGrownBy c.args.maker.now c.used_at.new.maker false n (sum_by nodes_of kept)) (sym same) c.in_ok-xs.ensures.grown) h)
    c.chain.ensures.grown
