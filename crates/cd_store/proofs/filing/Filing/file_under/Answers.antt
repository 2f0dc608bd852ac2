use Rattle.std.proofs.Common.{◌≡◌, ◌∷◌, [], List, ℕ, cond, nat_eq, Some, refl, sym, ap, ◌∙◌, subst, inl, rules}
use Rattle.std.specs.Map.{lookup}
use Rattle.std.specs.Option.{option_map_or}
use Rattle.cd_base.specs.Lists.{OneOf}
use Rattle.cd_base.proofs.Members.{member_left, member_right}
use Rattle.cd_store.specs.Filing.{KeepsFiled, listed}
use Rattle.cd_store.proofs.Listed.{numbers_of, listed_of, seen, keeps_more, is_filed}
use Rattle.cd_store.proofs.filing.Filing.file_under.Goals as goal

pub file_first-requires : goal.file_first-requires
file_first-requires c =
    ap (λ (m : _). listed (seen numbers_of m.entries) c.args.key) c.get_mut.follows.holds-at-none
    ∙ listed_of numbers_of c.self.inside.by_element.entries c.args.key
    ∙ ap (λ o. option_map_or numbers_of o []) (sym c.in-None.ensures.value)

pub returns-in_err-push-in-Some-clause-kept : goal.returns-in_err-push-in-Some-clause-kept
returns-in_err-push-in-Some-clause-kept c =
    let es = c.self.inside.by_element.entries in
    let fs = (c.get_mut.follows.lender c.push.new.self).entries in
    let u : (q : ℕ) → lookup (nat_eq q) fs ≡ cond (nat_eq c.args.key q) (Some c.push.new.self) (lookup (nat_eq q) es)
    = λ q. ((c.get_mut.follows.holds c.push.new.self).3 (search rules)).0 q in
    subst (λ (f : List (ℕ × List ℕ)). KeepsFiled f (seen numbers_of fs)) c.self.view_is
    (keeps_more numbers_of es fs c.args.key c.push.new.self u c.in-Some.list.now c.in-Some.ensures.value (λ m h. subst (λ (l : List ℕ). OneOf m l) (sym {A = List ℕ} (ap numbers_of c.in_err-push-in-Some.ensures.err)) h))

pub returns-clause-filed : goal.returns-clause-filed
returns-clause-filed c =
    let es = c.self.inside.by_element.entries in
    let fs = (c.get_mut.follows.lender c.push.new.self).entries in
    let u : (q : ℕ) → lookup (nat_eq q) fs ≡ cond (nat_eq c.args.key q) (Some c.push.new.self) (lookup (nat_eq q) es)
    = λ q. ((c.get_mut.follows.holds c.push.new.self).3 (search rules)).0 q in
    is_filed numbers_of es fs c.args.key c.push.new.self u c.args.number
    (subst (λ (l : List ℕ). OneOf c.args.number l) (sym {A = List ℕ} c.in_ok-push-in-Some.ensures.ok) (member_right c.args.number c.in-Some.list.now.items (c.args.number ∷ []) (inl refl)))

pub returns-clause-kept : goal.returns-clause-kept
returns-clause-kept c =
    let es = c.self.inside.by_element.entries in
    let fs = (c.get_mut.follows.lender c.push.new.self).entries in
    let u : (q : ℕ) → lookup (nat_eq q) fs ≡ cond (nat_eq c.args.key q) (Some c.push.new.self) (lookup (nat_eq q) es)
    = λ q. ((c.get_mut.follows.holds c.push.new.self).3 (search rules)).0 q in
    subst (λ (f : List (ℕ × List ℕ)). KeepsFiled f (seen numbers_of fs)) c.self.view_is
    (keeps_more numbers_of es fs c.args.key c.push.new.self u c.in-Some.list.now c.in-Some.ensures.value
    (λ m h. subst (λ (l : List ℕ). OneOf m l) (sym {A = List ℕ} c.in_ok-push-in-Some.ensures.ok) (member_left m c.in-Some.list.now.items (c.args.number ∷ []) h)))

pub returns-in-None-clause-kept : goal.returns-in-None-clause-kept
returns-in-None-clause-kept c = λ q n h.
    c.file_first.ensures.kept q n
    (subst (λ (l : List ℕ). OneOf n l) (sym (ap (λ (m : _). listed (seen numbers_of m.entries) q) c.get_mut.follows.holds-at-none ∙ ap (λ (f : List (ℕ × List ℕ)). listed f q) c.self.view_is)) h)
