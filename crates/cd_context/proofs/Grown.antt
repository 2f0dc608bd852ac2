-- A context has what it had, with more of it.
use Rattle.std.proofs.Common.{◌≡◌, ℕ, ◌+◌, ◌<◌, ◌≤◌, ◌⊎◌, inl, inr, Bool, true, List, [], ◌∷◌, ◌++◌, length, refl, sym, ap, ◌∙◌, subst, arith, eq-eqb}
use Rattle.std.specs.List.{list_any}
use Rattle.std.proofs.lemmas.Bool.{cases_lt, and_from}
use Rattle.std.proofs.lemmas.List.{length-append, append-nil}
use Rattle.cd_base.specs.Lists.{OneOf}
use Rattle.cd_base.proofs.Members.{member_left, member_right, any_member, any_by_member}
use Rattle.cd_rules.specs.declared.facts.BackFact.{BackFact}
use Rattle.cd_rules.specs.declared.facts.DeadFact.{DeadFact}
use Rattle.cd_rules.specs.declared.facts.SureFact.{SureFact}
use Rattle.cd_context.specs.declared.facts.Fact.{Fact}
use Rattle.cd_context.specs.declared.facts.Fact.TheVariants.{Start, Link, Back, Sure, Dead}
use Rattle.cd_context.specs.declared.facts.LinkFact.{LinkFact}
use Rattle.cd_context.specs.Contract.{Grows}
use Rattle.cd_base.specs.Counts.{last}
use Rattle.cd_context.specs.Facts.{same_key, has_fact, count}
use Rattle.cd_context.specs.State.{State}

-- the second list is the first with more after it
abbrev pub Begins : {X : Type 0} → List X → List X → Type 0
Begins {X} old new = (more : List X) × (new ≡ old ++ more)

pub begins_same : {X : Type 0} (xs : List X) → Begins xs xs
begins_same xs = ([], sym (append-nil xs))

begins_length : {X : Type 0} (old new : List X) → Begins old new → length old ≤ length new
begins_length old new b = let l : length new ≡ length old + length b.0 = ap (λ z. length z) b.1 ∙ length-append old b.0 in omega arith

any_begins : {X : Type 0} (p : X → Bool) (old new : List X) → Begins old new → list_any p old ≡ true → list_any p new ≡ true
any_begins p old new b h = let r = any_member p old h in any_by_member p new r.0 (subst (λ w. OneOf r.0 w) (sym b.1) (member_left r.0 old b.0 r.1)) r.2

pub length_one_more : {X : Type 0} (old new : List X) (x : X) → new ≡ old ++ x ∷ [] → length new ≡ length old + 1
length_one_more old new x e = ap (λ z. length z) e ∙ length-append old (x ∷ [])

-- each list of the new state begins with that of the old one
pub record Longer (old new : State) : Type 0 where
  pub key : new.key ≡ old.key
  pub clauses : Begins old.clauses new.clauses
  pub links : Begins old.links new.links
  pub backs : Begins old.backs new.backs
  pub sures : Begins old.sures new.sures
  pub deads : Begins old.deads new.deads

has_longer : (old new : State) → Longer old new → (f : Fact) → has_fact old f ≡ true → has_fact new f ≡ true
has_longer old new l Start h = refl
has_longer old new l (Link k r) h = any_begins _ old.links new.links l.links h
has_longer old new l (Back r k a) h = any_begins _ old.backs new.backs l.backs h
has_longer old new l (Sure r k a) h = any_begins _ old.sures new.sures l.sures h
has_longer old new l (Dead r k) h = any_begins _ old.deads new.deads l.deads h

pub grows : (old new : State) → Longer old new → Grows old new
grows old new l =
    let a : length old.clauses ≤ length new.clauses = begins_length old.clauses new.clauses l.clauses in
    let b : length old.links ≤ length new.links = begins_length old.links new.links l.links in
    let c : length old.backs ≤ length new.backs = begins_length old.backs new.backs l.backs in
    let e : length old.sures ≤ length new.sures = begins_length old.sures new.sures l.sures in
    let d : length old.deads ≤ length new.deads = begins_length old.deads new.deads l.deads in
    record {
      key = l.key;
      clauses = l.clauses;
      facts = has_longer old new l;
      count = elim (cases_lt (count old) (count new)) [ inl x ↦ inl x | inr x ↦ inr (omega arith) ];
    }

-- of one fact more, the count rises where it isn't at its end
pub risen : (old new : State) → Longer old new → length old.links + (length old.backs + (length old.sures + length old.deads)) < length new.links + (length new.backs + (length new.sures + length new.deads))
    → (count old < count new) ⊎ (count new ≡ last)
risen old new l h =
    let a : length old.clauses ≤ length new.clauses = begins_length old.clauses new.clauses l.clauses in
    elim (cases_lt (count old) (count new)) [ inl x ↦ inl x | inr x ↦ inr (omega arith) ]

same_key_refl : (k : List ℕ) → same_key k k ≡ true
same_key_refl [] = refl
same_key_refl (x ∷ k) = and_from _ _ (eq-eqb x x refl) (same_key_refl k)

pub had_link : (s : State) (links : List LinkFact) (f : LinkFact) → s.links ≡ links ++ f ∷ [] → has_fact s (Link f.key f.role) ≡ true
had_link s links f e = any_by_member _ s.links f (subst (λ w. OneOf f w) (sym e) (member_right f links (f ∷ []) (inl refl)))
    (and_from _ _ (same_key_refl f.key) (eq-eqb f.role f.role refl))

pub had_back : (s : State) (backs : List BackFact) (f : BackFact) → s.backs ≡ backs ++ f ∷ [] → has_fact s (Back f.role f.key f.atom) ≡ true
had_back s backs f e = any_by_member _ s.backs f (subst (λ w. OneOf f w) (sym e) (member_right f backs (f ∷ []) (inl refl)))
    (and_from _ _ (eq-eqb f.role f.role refl) (and_from _ _ (same_key_refl f.key) (eq-eqb f.atom f.atom refl)))

pub had_sure : (s : State) (sures : List SureFact) (f : SureFact) → s.sures ≡ sures ++ f ∷ [] → has_fact s (Sure f.role f.key f.atom) ≡ true
had_sure s sures f e = any_by_member _ s.sures f (subst (λ w. OneOf f w) (sym e) (member_right f sures (f ∷ []) (inl refl)))
    (and_from _ _ (eq-eqb f.role f.role refl) (and_from _ _ (same_key_refl f.key) (eq-eqb f.atom f.atom refl)))

pub had_dead : (s : State) (deads : List DeadFact) (f : DeadFact) → s.deads ≡ deads ++ f ∷ [] → has_fact s (Dead f.role f.key) ≡ true
had_dead s deads f e = any_by_member _ s.deads f (subst (λ w. OneOf f w) (sym e) (member_right f deads (f ∷ []) (inl refl)))
    (and_from _ _ (eq-eqb f.role f.role refl) (same_key_refl f.key))
