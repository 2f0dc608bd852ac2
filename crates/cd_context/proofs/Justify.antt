-- What a context stores is derived, and what it owes is justified.
use Rattle.std.proofs.Common.{ℕ, List, [], ◌∷◌, get_or, reverse, sym, ap, ◌∙◌, subst, inl, inr}
use Rattle.std.proofs.lemmas.List.{reverse-append}
use Rattle.cd_base.specs.Lists.{OneOf}
use Rattle.cd_base.specs.declared.normal.Normal.{Normal}
use Rattle.cd_base.proofs.Members.{member_left, member_right, member_get}
use Rattle.cd_clause.specs.declared.elem.Elem.{Elem}
use Rattle.cd_clause.specs.Covering.{Covers}
use Rattle.cd_clause.specs.Rules.{told_by}
use Rattle.cd_clause.specs.Derivations.{Derived, HasCase, HasSure, IsClosedByItself, Reachable, from_exist, told_nothing}
use Rattle.cd_clause.proofs.Derive.{concludes_more, derived_closed}
use Rattle.cd_store.proofs.Picks.{picked_from}
use Rattle.cd_rules.specs.Facts.{ToldFacts, told_from, IsBack, IsSure, IsDead}
use Rattle.cd_context.specs.declared.facts.Fact.TheVariants.{Link}
use Rattle.cd_context.specs.declared.facts.Note.{Note}
use Rattle.cd_context.specs.Justified.{ClosedLocally, IsContext, Justified, StoredDerived, OwedJustified, StoredInTurn}
use Rattle.cd_context.specs.Owes.{owes_link, owes_back, owes_sure, owes_dead}
use Rattle.cd_context.specs.State.{State, live_of, told_of}

-- a list has no other members than its reverse
pub member_reversed : {X : Type 0} (x : X) (xs : List X) → OneOf x xs → OneOf x (reverse xs)
member_reversed x [] m = m
member_reversed {X} x (y ∷ xs) m =
    subst (λ (l : List X). OneOf x l) (sym (reverse-append (y ∷ []) xs))
    (elim m [ inl e ↦ member_right x (reverse xs) (y ∷ []) (inl e) | inr k ↦ member_left x (reverse xs) (y ∷ []) (member_reversed x xs k) ])

-- what is stored in turn, from facts that are true, is derived
pub in_turn_derived : (n : Normal) (key : List ℕ) (told : ToldFacts)
    → ((r : ℕ) (k : List ℕ) (a : ℕ) → IsBack told.backs r k a → HasCase n k a) → ((r : ℕ) (k : List ℕ) (a : ℕ) → IsSure told.sures r k a → HasSure n k a)
    → ((r : ℕ) (k : List ℕ) → IsDead told.deads r k → Derived n k [])
    → (cs : List (List Elem)) → StoredInTurn n key told cs → (c : List Elem) → OneOf c cs → Derived n key c
in_turn_derived n key told f w g [] s c m = absurd m
in_turn_derived n key told f w g (x ∷ cs) s c (inr m) = in_turn_derived n key told f w g cs s.1 c m
in_turn_derived n key told f w g (x ∷ cs) s c (inl q) =
    let earlier : (c : List Elem) → OneOf c cs → Derived n key c = in_turn_derived n key told f w g cs s.1 in
    subst (Derived n key) (sym q) (derived_closed n key x
    (concludes_more n key (λ c. OneOf c cs) (Derived n key) (told_from told) (told_by n (Derived n)) x earlier f w g s.0))

pub stored_derived : StoredDerived
stored_derived n s j c m =
    in_turn_derived n s.key (told_of s) (λ r k a b. (j.backs r k a b).2) (λ r k a b. (j.sures r k a b).2) (λ r k d. (j.deads r k d).2) (reverse s.clauses) j.in_turn c
    (member_reversed c s.clauses m)

-- a live clause is derived
pub live_derived : (n : Normal) (s : State) → IsContext n s → (c : List Elem) → OneOf c (live_of s) → Derived n s.key c
live_derived n s j c m =
    let r = picked_from s.clauses s.live c m in
    stored_derived n s j c (subst (λ (d : List Elem). OneOf d s.clauses) (sym r.2) (member_get s.clauses r.0 [] (j.store.in_range r.0 r.1)))

-- the live clauses of a closed context are closed by themselves
closed_by_itself : (n : Normal) (s : State) → IsContext n s → ClosedLocally n s → IsClosedByItself n s.key (live_of s)
closed_by_itself n s j closed = record {
  derived = live_derived n s j;
  closed = λ d q. closed d (concludes_more n s.key (λ c. OneOf c (live_of s)) (λ c. OneOf c (live_of s)) told_nothing (told_from (told_of s)) d (λ c m. m) (λ r k a z. absurd z) (λ r k a z. absurd z) (λ r k z. absurd z) q);
  apart = λ c d m k covers.
      let x = picked_from s.clauses s.live c m in
      let y = picked_from s.clauses s.live d k in
      let w : Covers (get_or s.clauses x.0 []) (get_or s.clauses y.0 []) = subst (λ (z : List Elem). Covers z (get_or s.clauses y.0 [])) x.2 (subst (λ (z : List Elem). Covers c z) y.2 covers) in
      x.2 ∙ ap (λ i. get_or s.clauses i []) (j.store.minimal x.0 y.0 x.1 y.1 w) ∙ sym y.2;
}

pub owed_justified : OwedJustified
owed_justified n s j closed note (owes_link r k c m e q) =
    let P : Note → Type 0 = λ w. Reachable n w.key × Justified n w.key w.fact in
    let d = live_derived n s j c m in
    subst P (sym q) (from_exist s.key (live_of s) c r j.reachable (closed_by_itself n s j closed) m e, (j.reachable, (c, d, e)))
owed_justified n s j closed note (owes_back h r c t l m e tm u q) =
    let P : Note → Type 0 = λ w. Reachable n w.key × Justified n w.key w.fact in
    let k : Justified n s.key (Link h r) = j.links h r l in
    subst P (sym q) (k.0, (k.0, k.1, (c, live_derived n s j c m, e)))
owed_justified n s j closed note (owes_sure h r c t l m e tm u q) =
    let P : Note → Type 0 = λ w. Reachable n w.key × Justified n w.key w.fact in
    let k : Justified n s.key (Link h r) = j.links h r l in
    subst P (sym q) (k.0, (k.0, k.1, (c, live_derived n s j c m, e)))
owed_justified n s j closed note (owes_dead h r l m q) =
    let P : Note → Type 0 = λ w. Reachable n w.key × Justified n w.key w.fact in
    let k : Justified n s.key (Link h r) = j.links h r l in
    subst P (sym q) (k.0, (k.0, k.1, live_derived n s j [] m))
