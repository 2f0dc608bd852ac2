-- Closed contexts are saturated: each premise from another context is told by a fact.
use Rattle.std.proofs.Common.{◌≡◌, ◌==◌, ◌&&◌, ℕ, true, List, [], ◌∷◌, refl, sym, subst, eqb-true}
use Rattle.std.specs.Cmp.Lexicographic.{same_text}
use Rattle.std.proofs.lemmas.Bool.{and_parts}
use Rattle.cd_base.specs.Lists.{OneOf, SameSet}
use Rattle.cd_base.specs.Normal.{Under}
use Rattle.cd_base.specs.declared.normal.Normal.{Normal}
use Rattle.cd_base.specs.declared.normal.Triple.{Triple}
use Rattle.cd_base.proofs.Members.{any_member}
use Rattle.cd_clause.specs.declared.elem.Elem.{Elem}
use Rattle.cd_clause.specs.declared.elem.Elem.TheVariants.{Plain, Exist}
use Rattle.cd_clause.specs.Elements.{Eligible, IsCase}
use Rattle.cd_clause.specs.Rules.{Concludes, told_by, by_init, by_neg, by_con, by_ex, by_back, by_sure, by_dead, by_all}
use Rattle.cd_clause.specs.Derivations.{Redundant}
use Rattle.cd_model.specs.Saturated.{Saturated}
use Rattle.cd_rules.specs.declared.facts.BackFact.{BackFact}
use Rattle.cd_rules.specs.declared.facts.DeadFact.{DeadFact}
use Rattle.cd_rules.specs.declared.facts.SureFact.{SureFact}
use Rattle.cd_rules.specs.Facts.{IsBack, IsSure, IsDead, ConcludesFrom}
use Rattle.cd_context.specs.declared.facts.Fact.TheVariants.{Link, Back, Sure, Dead}
use Rattle.cd_context.specs.declared.facts.LinkFact.{LinkFact}
use Rattle.cd_context.specs.Facts.{same_key, has_fact}
use Rattle.cd_context.specs.Owes.{IsLinked, owes_link, owes_back, owes_sure, owes_dead}
use Rattle.cd_context.specs.State.{State, live_of, told_of}
use Rattle.cd_cell.specs.Closed.{Closed, Saturation}

-- a fact that is had is listed
linked : (s : State) (k : List ℕ) (r : ℕ) → has_fact s (Link k r) ≡ true → IsLinked s k r
linked s k r h =
    let w = any_member (λ (f : LinkFact). same_key k f.key && r == f.role) s.links h in
    let p = and_parts (same_key k w.0.key) (r == w.0.role) w.2 in
    let ek : k ≡ w.0.key = same_text k w.0.key (sym p.0) in
    let er : r ≡ w.0.role = eqb-true r w.0.role p.1 in
    let e : w.0 ≡ record { key = k; role = r } = λ i. record { key = sym ek i; role = sym er i } in
    subst (λ z. OneOf z s.links) e w.1

backed : (s : State) (r : ℕ) (k : List ℕ) (a : ℕ) → has_fact s (Back r k a) ≡ true → IsBack s.backs r k a
backed s r k a h =
    let w = any_member (λ (f : BackFact). r == f.role && (same_key k f.key && a == f.atom)) s.backs h in
    let p = and_parts (r == w.0.role) (same_key k w.0.key && a == w.0.atom) w.2 in
    let q = and_parts (same_key k w.0.key) (a == w.0.atom) p.1 in
    let er : r ≡ w.0.role = eqb-true r w.0.role p.0 in
    let ek : k ≡ w.0.key = same_text k w.0.key (sym q.0) in
    let ea : a ≡ w.0.atom = eqb-true a w.0.atom q.1 in
    let e : w.0 ≡ record { role = r; key = k; atom = a } = λ i. record { role = sym er i; key = sym ek i; atom = sym ea i } in
    subst (λ z. OneOf z s.backs) e w.1

made_sure : (s : State) (r : ℕ) (k : List ℕ) (a : ℕ) → has_fact s (Sure r k a) ≡ true → IsSure s.sures r k a
made_sure s r k a h =
    let w = any_member (λ (f : SureFact). r == f.role && (same_key k f.key && a == f.atom)) s.sures h in
    let p = and_parts (r == w.0.role) (same_key k w.0.key && a == w.0.atom) w.2 in
    let q = and_parts (same_key k w.0.key) (a == w.0.atom) p.1 in
    let er : r ≡ w.0.role = eqb-true r w.0.role p.0 in
    let ek : k ≡ w.0.key = same_text k w.0.key (sym q.0) in
    let ea : a ≡ w.0.atom = eqb-true a w.0.atom q.1 in
    let e : w.0 ≡ record { role = r; key = k; atom = a } = λ i. record { role = sym er i; key = sym ek i; atom = sym ea i } in
    subst (λ z. OneOf z s.sures) e w.1

dead : (s : State) (r : ℕ) (k : List ℕ) → has_fact s (Dead r k) ≡ true → IsDead s.deads r k
dead s r k h =
    let w = any_member (λ (f : DeadFact). r == f.role && same_key k f.key) s.deads h in
    let p = and_parts (r == w.0.role) (same_key k w.0.key) w.2 in
    let er : r ≡ w.0.role = eqb-true r w.0.role p.0 in
    let ek : k ≡ w.0.key = same_text k w.0.key (sym p.1) in
    let e : w.0 ≡ record { role = r; key = k } = λ i. record { role = sym er i; key = sym ek i } in
    subst (λ z. OneOf z s.deads) e w.1

module _ (n : Normal) (keys : List (List ℕ)) (state : List ℕ → State) (closed : Closed n keys state) where
  abbrev live : List ℕ → List (List Elem)
  live k = live_of (state k)

  -- the context of an eligible existential is there, and has the link
  link_had : (h : List ℕ) → OneOf h keys → (c : List Elem) → OneOf c (live h) → (r : ℕ) (k : List ℕ) → Eligible n (Exist r k) c → OneOf k keys × IsLinked (state k) h r
  link_had h m c w r k e =
      let l = closed.had h m (record { key = k; fact = Link (state h).key r }) (owes_link r k c w e refl) in
      (l.0, linked (state k) h r (subst (λ z. has_fact (state k) (Link z r) ≡ true) (closed.own h m) l.1))

  abbrev Wide : List ℕ → List Elem → Type 0
  Wide h d = Concludes n h (λ c. OneOf c (live h)) (told_by n (λ k c. OneOf k keys × OneOf c (live k))) d

  abbrev Here : List ℕ → List Elem → Type 0
  Here h d = ConcludesFrom n h (λ c. OneOf c (live h)) (told_of (state h)) d

  redundant_here : (h : List ℕ) → OneOf h keys → (d : List Elem) → Here h d → Redundant (live h) d
  redundant_here h m d q = closed.locally h m d (subst (λ z. ConcludesFrom n z (λ c. OneOf c (live h)) (told_of (state h)) d) (sym (closed.own h m)) q)

  module _ (h : List ℕ) (m : OneOf h keys) (c : List Elem) (w : OneOf c (live h)) (r : ℕ) (k : List ℕ) (e : Eligible n (Exist r k) c) where
    link : OneOf k keys × IsLinked (state k) h r
    link = link_had h m c w r k e

    back_had : (t : Triple) (b : List Elem) → OneOf b (live k) → IsCase n t.atom b → OneOf t n.n3 → Under n.n5 r t.role → IsBack (state h).backs r k t.atom
    back_had t b mb eb tm u =
        let f = closed.had k link.0 (record { key = h; fact = Back r (state k).key t.atom }) (owes_back h r b t link.1 mb eb tm u refl) in
        backed (state h) r k t.atom (subst (λ z. has_fact (state h) (Back r z t.atom) ≡ true) (closed.own k link.0) f.1)

    sure_had : (t : Triple) (b : List Elem) → OneOf b (live k) → SameSet b (Plain t.atom ∷ []) → OneOf t n.n3 → Under n.n5 r t.role → IsSure (state h).sures r k t.atom
    sure_had t b mb alone tm u =
        let f = closed.had k link.0 (record { key = h; fact = Sure r (state k).key t.atom }) (owes_sure h r b t link.1 mb alone tm u refl) in
        made_sure (state h) r k t.atom (subst (λ z. has_fact (state h) (Sure r z t.atom) ≡ true) (closed.own k link.0) f.1)

    dead_had : OneOf [] (live k) → IsDead (state h).deads r k
    dead_had z =
        let f = closed.had k link.0 (record { key = h; fact = Dead r (state k).key }) (owes_dead h r link.1 z refl) in
        dead (state h) r k (subst (λ y. has_fact (state h) (Dead r y) ≡ true) (closed.own k link.0) f.1)

  all_redundant : (h : List ℕ) → OneOf h keys → (d : List Elem) → Wide h d → Redundant (live h) d
  all_redundant h m d (by_init a k s) = redundant_here h m d (by_init a k s)
  all_redundant h m d (by_neg a c w t k s) = redundant_here h m d (by_neg a c w t k s)
  all_redundant h m d (by_con x l k r s) = redundant_here h m d (by_con x l k r s)
  all_redundant h m d (by_ex t c k w e s) = redundant_here h m d (by_ex t c k w e s)
  all_redundant h m d (by_back t c r k tm w e b u s) = redundant_here h m d (by_back t c r k tm w e (back_had h m c w r k e t b.0 b.1.1 b.2 tm u) u s)
  all_redundant h m d (by_sure t c r k tm w e b u s) = redundant_here h m d (by_sure t c r k tm w e (sure_had h m c w r k e t b.0 b.1.1 b.2 tm u) u s)
  all_redundant h m d (by_dead c r k w e b s) = redundant_here h m d (by_dead c r k w e (dead_had h m c w r k e b.1) s)
  all_redundant h m d (by_all t c b r k tm w e wb eb u s) = redundant_here h m d (by_all t c b r k tm w e wb eb u s)

  saturated : Saturated n keys live
  saturated = record {
    closed = all_redundant;
    reached = λ h m c w r k e. (link_had h m c w r k e).0;
  }

pub saturation : Saturation
saturation n keys state closed = saturated n keys state closed
