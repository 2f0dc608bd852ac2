use Rattle.std.proofs.Common.{◌≡◌, ◌∷◌, ◌/◌, ℕ, [], length, get_or, sym, ap, ◌∙◌, inl, arith}
use Rattle.cd_store.specs.Filing.{keys_of, HasList}
use Rattle.cd_store.proofs.Gaining.{gain_ends, gain_goes, gain_list}
use Rattle.cd_store.proofs.Listed.{IsNumberAt, number_place}
use Rattle.cd_store.proofs.filing.Filing.push_numbers.Goals as goal

pub lists-preserved : goal.lists-preserved
lists-preserved c =
    gain_goes (IsNumberAt c.args.self.now) c.lists.i c.args.numbers.now.items c.lists.numbers.items c.push.new.self.items c.lists.invariant
    (gain_list (IsNumberAt c.args.self.now c.lists.i) c.lists.numbers.items c.push.new.self.items (c.key_at.result / 4 ∷ []) c.in_ok-push.ensures.items
    (λ a e. let at : c.key_at.result ≡ get_or (keys_of c.args.self.now) c.lists.i 0 = c.key_at.ensures in inl (sym (ap (λ (k : ℕ). k / 4) at ∙ e))))

pub returns : goal.returns
returns c =
    gain_ends (IsNumberAt c.args.self.now) c.lists.i (length (keys_of c.args.self.now)) c.args.numbers.now.items c.lists.numbers.items
    (HasList c.args.self.now) c.lists.invariant (omega (arith, c.lists-test.false, c.count-i-end.ensures)) (number_place c.args.self.now)
