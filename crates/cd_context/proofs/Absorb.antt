-- A context takes a fact.
use Rattle.std.proofs.Common.{◌≡◌, ◌==◌, ◌&&◌, ◌∙◌, ◌⊎◌, Bool, true, false, ℕ, eqb-true, inl, inr, List, [], ◌∷◌, ◌++◌, length, filter, nat_lt, refl, sym, subst, arith}
use Rattle.std.specs.List.{list_any}
use Rattle.std.specs.Result.{OnOk}
use Rattle.std.specs.declared.result.Result.{Result}
use Rattle.std.specs.declared.result.Result.TheVariants.{Ok, Err}
use Rattle.cd_base.specs.Lists.{OneOf, HasNoRepeats}
use Rattle.cd_base.specs.declared.normal.Normal.{Normal}
use Rattle.cd_base.proofs.Members.{member_left, member_cases, any_by_member, any_member}
use Rattle.std.proofs.lemmas.Bool.{and_from, and_parts, false≢true, eq-eqb}
use Rattle.std.proofs.lemmas.Cmp.{nat_list_eq_equiv}
use Rattle.cd_context.specs.Facts.{has_fact, same_key}
use Rattle.cd_clause.specs.declared.elem.Elem.{Elem}
use Rattle.cd_rules.specs.declared.facts.BackFact.{BackFact}
use Rattle.cd_rules.specs.declared.facts.DeadFact.{DeadFact}
use Rattle.cd_rules.specs.declared.facts.SureFact.{SureFact}
use Rattle.cd_store.specs.Store.{IsStore}
use Rattle.cd_context.specs.declared.facts.Fact.{Fact}
use Rattle.cd_context.specs.declared.facts.Fact.TheVariants.{Start, Link, Back, Sure, Dead}
use Rattle.cd_context.specs.declared.facts.LinkFact.{LinkFact}
use Rattle.cd_context.specs.declared.facts.Note.{Note}
use Rattle.cd_context.specs.Absorbing.{Keeps, Absorbs}
use Rattle.cd_context.specs.Contract.{GainsOnly, Sends}
use Rattle.cd_context.specs.Justified.{Justified, IsContext, ClosedLocally, IsInTurn}
use Rattle.cd_context.specs.Owes.{Owes}
use Rattle.cd_context.specs.State.{State}
use Rattle.cd_context.specs.TakeUp.{ClosedUpTo, Continues}
use Rattle.cd_context.proofs.Grown.{begins_same, Longer, grows, risen, length_one_more, had_link, had_back, had_sure, had_dead}
use Rattle.cd_context.proofs.Once.{same_key-true}
use Rattle.cd_context.proofs.Sent.{sends_less, owed_after}
use Rattle.cd_context.proofs.TakeUps.{none_waits}

-- what follows from two facts where a call went well
pub on_ok_both : {T E P Q R : Type 0} (r : Result T E) → (P → Q → R) → OnOk r P → OnOk r Q → OnOk r R
on_ok_both (Ok x) f p q = f p q
on_ok_both (Err e) f p q = tt

-- of facts that are justified, with one more that is
each_with : {X : Type 0} (P : X → Type 0) (old new : List X) (f : X) → new ≡ old ++ f ∷ [] → ((x : X) → OneOf x old → P x) → P f → (x : X) → OneOf x new → P x
each_with {X} P old new f e h p x m = elim (member_cases x old (f ∷ []) (subst (λ w. OneOf x w) e m)) [
  | inl l ↦ h x l
  | inr l ↦ elim l [ inl q ↦ subst P (sym q) p | inr z ↦ absurd z ]
]

pub joined : {X : Type 0} (old new : List X) (f : X) → new ≡ old ++ f ∷ [] → (x : X) → OneOf x old → OneOf x new
joined old new f e x m = subst (λ w. OneOf x w) (sym e) (member_left x old (f ∷ []) m)

-- of facts that stand once, with one more that is new
once_with : {X : Type 0} (old new : List X) (f : X) → new ≡ old ++ f ∷ [] → HasNoRepeats old → (OneOf f old → ⊥) → HasNoRepeats new
once_with {X} old new f e a fresh = subst HasNoRepeats (sym e) (apart_more old a fresh)
  where
    apart_more : (xs : List X) → HasNoRepeats xs → (OneOf f xs → ⊥) → HasNoRepeats (xs ++ f ∷ [])
    apart_more [] a h = (λ m. m, tt)
    apart_more (x ∷ xs) a h = (
      λ m. elim (member_cases x xs (f ∷ []) m) [ inl k ↦ a.0 k | inr k ↦ elim k [ inl q ↦ h (inl (sym q)) | inr z ↦ absurd z ] ],
      apart_more xs a.1 (λ m. h (inr m)),
    )

same_self : (k : List ℕ) → same_key k k ≡ true
same_self k = nat_list_eq_equiv.refl k

-- a fact that is not had is not listed
new_link : (s : State) (f : LinkFact) → has_fact s (Link f.key f.role) ≡ false → OneOf f s.links → ⊥
new_link s f h m = false≢true (sym h ∙ any_by_member (λ (g : LinkFact). same_key f.key g.key && f.role == g.role) s.links f m
    (and_from (same_key f.key f.key) (f.role == f.role) (same_self f.key) (eq-eqb f.role f.role refl)))

new_back : (s : State) (f : BackFact) → has_fact s (Back f.role f.key f.atom) ≡ false → OneOf f s.backs → ⊥
new_back s f h m = false≢true (sym h ∙ any_by_member (λ (g : BackFact). f.role == g.role && (same_key f.key g.key && f.atom == g.atom)) s.backs f m
    (and_from (f.role == f.role) (same_key f.key f.key && f.atom == f.atom) (eq-eqb f.role f.role refl)
    (and_from (same_key f.key f.key) (f.atom == f.atom) (same_self f.key) (eq-eqb f.atom f.atom refl))))

new_sure : (s : State) (f : SureFact) → has_fact s (Sure f.role f.key f.atom) ≡ false → OneOf f s.sures → ⊥
new_sure s f h m = false≢true (sym h ∙ any_by_member (λ (g : SureFact). f.role == g.role && (same_key f.key g.key && f.atom == g.atom)) s.sures f m
    (and_from (f.role == f.role) (same_key f.key f.key && f.atom == f.atom) (eq-eqb f.role f.role refl)
    (and_from (same_key f.key f.key) (f.atom == f.atom) (same_self f.key) (eq-eqb f.atom f.atom refl))))

new_dead : (s : State) (f : DeadFact) → has_fact s (Dead f.role f.key) ≡ false → OneOf f s.deads → ⊥
new_dead s f h m = false≢true (sym h ∙ any_by_member (λ (g : DeadFact). f.role == g.role && same_key f.key g.key) s.deads f m
    (and_from (f.role == f.role) (same_key f.key f.key) (eq-eqb f.role f.role refl) (same_self f.key)))

-- what passes among these with one more, passed among them, or that one does
any_with : {X : Type 0} (p : X → Bool) (old new : List X) (f : X) → new ≡ old ++ f ∷ [] → list_any p new ≡ true → (list_any p old ≡ true) ⊎ (p f ≡ true)
any_with p old new f e h =
    let m = any_member p new h in
    elim (member_cases m.0 old (f ∷ []) (subst (λ w. OneOf m.0 w) e m.1)) [
      | inl l ↦ inl (any_by_member p old m.0 l m.2)
      | inr l ↦ elim l [ inl q ↦ inr (subst (λ x. p x ≡ true) q m.2) | inr z ↦ absurd z ]
    ]

-- the old state under another name
pub keeps_of : (n : Normal) (old old' new : State) {fact : Fact} → old ≡ old' → Keeps n old fact new → Keeps n old' fact new
keeps_of n old old' new {fact} e k = subst (λ s. Keeps n s fact new) e k

pub absorbs_of : (n : Normal) (old old' : State) (fact : Fact) (new : State) (out new_out : List Note) → old ≡ old' → Absorbs n old fact new out new_out → Absorbs n old' fact new out new_out
absorbs_of n old old' fact new out new_out e k = subst (λ s. Absorbs n s fact new out new_out) e k

-- A link comes.
module _ (n : Normal) (old : State) (f : LinkFact) (links : List LinkFact) (kept : IsContext n old) (closed : ClosedLocally n old) (just : Justified n old.key (Link f.key f.role)) (fresh : has_fact old (Link f.key f.role) ≡ false) (e : links ≡ old.links ++ f ∷ []) where
  abbrev with_link : State
  with_link = record { key = old.key; clauses = old.clauses; live = old.live; links = links; backs = old.backs; sures = old.sures; deads = old.deads }

  longer_link : Longer old with_link
  longer_link = record { key = refl; clauses = begins_same old.clauses; links = (f ∷ [], e); backs = begins_same old.backs; sures = begins_same old.sures; deads = begins_same old.deads }

  -- of the links, the old ones and this one are had
  gained_link : GainsOnly old (Link f.key f.role) with_link
  gained_link Start h = inl refl
  gained_link (Link k r) h = elim (any_with (λ (g : LinkFact). same_key k g.key && r == g.role) old.links links f e h) [
    | inl m ↦ inl m
    | inr p ↦ let q = and_parts (same_key k f.key) (r == f.role) p in let key : k ≡ f.key = same_key-true k f.key q.0 in let role : r ≡ f.role = eqb-true r f.role q.1 in inr cc
  ]
  gained_link (Back r k a) h = inl h
  gained_link (Sure r k a) h = inl h
  gained_link (Dead r k) h = inl h

  pub keeps_link : Keeps n old (Link f.key f.role) with_link
  keeps_link = record {
    context = record {
      reachable = kept.reachable;
      links = λ h r m. each_with (λ x. Justified n old.key (Link x.key x.role)) old.links links f e (λ x i. kept.links x.key x.role i) just (record { key = h; role = r }) m;
      backs = kept.backs;
      sures = kept.sures;
      deads = kept.deads;
      links_once = once_with old.links links f e kept.links_once (new_link old f fresh);
      backs_once = kept.backs_once;
      sures_once = kept.sures_once;
      deads_once = kept.deads_once;
      in_turn = kept.in_turn;
      store = kept.store;
    };
    grows = grows old with_link longer_link;
    only = gained_link;
  }

  pub absorbs_link : (out new_out : List Note)
      → Sends n (Unit {0}) (Owes n old) (record { key = old.key; clauses = old.clauses; live = old.live; links = old.links ++ f ∷ []; backs = old.backs; sures = old.sures; deads = old.deads }) out new_out → Absorbs n old (Link f.key f.role) with_link out new_out
  absorbs_link out new_out s = record {
    closed = closed;
    had = had_link with_link old.links f e;
    risen = risen old with_link longer_link (let l = length_one_more old.links links f e in omega arith);
    sends = subst (λ w. Sends n (Unit {0}) (Owes n old) (record { key = old.key; clauses = old.clauses; live = old.live; links = w; backs = old.backs; sures = old.sures; deads = old.deads }) out new_out) (sym e) s;
  }

-- A back comes.
module _ (n : Normal) (old : State) (f : BackFact) (backs : List BackFact) (clauses : List (List Elem)) (live : List ℕ) (kept : IsContext n old) (just : Justified n old.key (Back f.role f.key f.atom)) (fresh : has_fact old (Back f.role f.key f.atom) ≡ false) (e : backs ≡ old.backs ++ f ∷ [])
    (in_turn : IsInTurn n old.key (record { backs = backs; sures = old.sures; deads = old.deads }) clauses) (store : IsStore clauses live) (continues : Continues (record { clauses = old.clauses; live = old.live }) (record { clauses = clauses; live = live })) where
  abbrev with_back : State
  with_back = record { key = old.key; clauses = clauses; live = live; links = old.links; backs = backs; sures = old.sures; deads = old.deads }

  longer_back : Longer old with_back
  longer_back = record { key = refl; clauses = continues.follows; links = begins_same old.links; backs = (f ∷ [], e); sures = begins_same old.sures; deads = begins_same old.deads }

  -- of the backs, the old ones and this one are had
  gained_back : GainsOnly old (Back f.role f.key f.atom) with_back
  gained_back Start h = inl refl
  gained_back (Link k r) h = inl h
  gained_back (Back r k a) h = elim (any_with (λ (g : BackFact). r == g.role && (same_key k g.key && a == g.atom)) old.backs backs f e h) [
    | inl m ↦ inl m
    | inr p ↦ let q = and_parts (r == f.role) (same_key k f.key && a == f.atom) p in let w = and_parts (same_key k f.key) (a == f.atom) q.1 in
        let role : r ≡ f.role = eqb-true r f.role q.0 in let key : k ≡ f.key = same_key-true k f.key w.0 in let atom : a ≡ f.atom = eqb-true a f.atom w.1 in inr cc
  ]
  gained_back (Sure r k a) h = inl h
  gained_back (Dead r k) h = inl h

  pub keeps_back : Keeps n old (Back f.role f.key f.atom) with_back
  keeps_back = record {
    context = record {
      reachable = kept.reachable;
      links = kept.links;
      backs = λ r k a m. each_with (λ x. Justified n old.key (Back x.role x.key x.atom)) old.backs backs f e (λ x i. kept.backs x.role x.key x.atom i) just (record { role = r; key = k; atom = a }) m;
      sures = kept.sures;
      deads = kept.deads;
      links_once = kept.links_once;
      backs_once = once_with old.backs backs f e kept.backs_once (new_back old f fresh);
      sures_once = kept.sures_once;
      deads_once = kept.deads_once;
      in_turn = in_turn;
      store = store;
    };
    grows = grows old with_back longer_back;
    only = gained_back;
  }

  pub absorbs_back : (out new_out : List Note) → ClosedUpTo n old.key (record { backs = backs; sures = old.sures; deads = old.deads }) clauses live [] []
      → Sends n (Unit {0}) (Owes n (record { key = old.key; clauses = clauses; live = filter (λ k. nat_lt k (length old.clauses)) live; links = old.links; backs = backs; sures = old.sures; deads = old.deads })) with_back out new_out
      → Absorbs n old (Back f.role f.key f.atom) with_back out new_out
  absorbs_back out new_out closed s = record {
    closed = none_waits n old.key (record { backs = backs; sures = old.sures; deads = old.deads }) clauses live closed;
    had = had_back with_back old.backs f e;
    risen = risen old with_back longer_back (let l = length_one_more old.backs backs f e in omega arith);
    sends = sends_less n _ (Owes n old) with_back out new_out (owed_after n old clauses live backs old.sures old.deads (length old.clauses) refl continues) s;
  }

-- A sure comes.
module _ (n : Normal) (old : State) (f : SureFact) (sures : List SureFact) (clauses : List (List Elem)) (live : List ℕ) (kept : IsContext n old) (just : Justified n old.key (Sure f.role f.key f.atom)) (fresh : has_fact old (Sure f.role f.key f.atom) ≡ false) (e : sures ≡ old.sures ++ f ∷ [])
    (in_turn : IsInTurn n old.key (record { backs = old.backs; sures = sures; deads = old.deads }) clauses) (store : IsStore clauses live) (continues : Continues (record { clauses = old.clauses; live = old.live }) (record { clauses = clauses; live = live })) where
  abbrev with_sure : State
  with_sure = record { key = old.key; clauses = clauses; live = live; links = old.links; backs = old.backs; sures = sures; deads = old.deads }

  longer_sure : Longer old with_sure
  longer_sure = record { key = refl; clauses = continues.follows; links = begins_same old.links; backs = begins_same old.backs; sures = (f ∷ [], e); deads = begins_same old.deads }

  -- of the sures, the old ones and this one are had
  gained_sure : GainsOnly old (Sure f.role f.key f.atom) with_sure
  gained_sure Start h = inl refl
  gained_sure (Link k r) h = inl h
  gained_sure (Back r k a) h = inl h
  gained_sure (Sure r k a) h = elim (any_with (λ (g : SureFact). r == g.role && (same_key k g.key && a == g.atom)) old.sures sures f e h) [
    | inl m ↦ inl m
    | inr p ↦ let q = and_parts (r == f.role) (same_key k f.key && a == f.atom) p in let w = and_parts (same_key k f.key) (a == f.atom) q.1 in
        let role : r ≡ f.role = eqb-true r f.role q.0 in let key : k ≡ f.key = same_key-true k f.key w.0 in let atom : a ≡ f.atom = eqb-true a f.atom w.1 in inr cc
  ]
  gained_sure (Dead r k) h = inl h

  pub keeps_sure : Keeps n old (Sure f.role f.key f.atom) with_sure
  keeps_sure = record {
    context = record {
      reachable = kept.reachable;
      links = kept.links;
      backs = kept.backs;
      sures = λ r k a m. each_with (λ x. Justified n old.key (Sure x.role x.key x.atom)) old.sures sures f e (λ x i. kept.sures x.role x.key x.atom i) just (record { role = r; key = k; atom = a }) m;
      deads = kept.deads;
      links_once = kept.links_once;
      backs_once = kept.backs_once;
      sures_once = once_with old.sures sures f e kept.sures_once (new_sure old f fresh);
      deads_once = kept.deads_once;
      in_turn = in_turn;
      store = store;
    };
    grows = grows old with_sure longer_sure;
    only = gained_sure;
  }

  pub absorbs_sure : (out new_out : List Note) → ClosedUpTo n old.key (record { backs = old.backs; sures = sures; deads = old.deads }) clauses live [] []
      → Sends n (Unit {0}) (Owes n (record { key = old.key; clauses = clauses; live = filter (λ k. nat_lt k (length old.clauses)) live; links = old.links; backs = old.backs; sures = sures; deads = old.deads })) with_sure out new_out
      → Absorbs n old (Sure f.role f.key f.atom) with_sure out new_out
  absorbs_sure out new_out closed s = record {
    closed = none_waits n old.key (record { backs = old.backs; sures = sures; deads = old.deads }) clauses live closed;
    had = had_sure with_sure old.sures f e;
    risen = risen old with_sure longer_sure (let l = length_one_more old.sures sures f e in omega arith);
    sends = sends_less n _ (Owes n old) with_sure out new_out (owed_after n old clauses live old.backs sures old.deads (length old.clauses) refl continues) s;
  }

-- A dead comes.
module _ (n : Normal) (old : State) (f : DeadFact) (deads : List DeadFact) (clauses : List (List Elem)) (live : List ℕ) (kept : IsContext n old) (just : Justified n old.key (Dead f.role f.key)) (fresh : has_fact old (Dead f.role f.key) ≡ false) (e : deads ≡ old.deads ++ f ∷ [])
    (in_turn : IsInTurn n old.key (record { backs = old.backs; sures = old.sures; deads = deads }) clauses) (store : IsStore clauses live) (continues : Continues (record { clauses = old.clauses; live = old.live }) (record { clauses = clauses; live = live })) where
  abbrev with_dead : State
  with_dead = record { key = old.key; clauses = clauses; live = live; links = old.links; backs = old.backs; sures = old.sures; deads = deads }

  longer_dead : Longer old with_dead
  longer_dead = record { key = refl; clauses = continues.follows; links = begins_same old.links; backs = begins_same old.backs; sures = begins_same old.sures; deads = (f ∷ [], e) }

  -- of the deads, the old ones and this one are had
  gained_dead : GainsOnly old (Dead f.role f.key) with_dead
  gained_dead Start h = inl refl
  gained_dead (Link k r) h = inl h
  gained_dead (Back r k a) h = inl h
  gained_dead (Sure r k a) h = inl h
  gained_dead (Dead r k) h = elim (any_with (λ (g : DeadFact). r == g.role && same_key k g.key) old.deads deads f e h) [
    | inl m ↦ inl m
    | inr p ↦ let q = and_parts (r == f.role) (same_key k f.key) p in let role : r ≡ f.role = eqb-true r f.role q.0 in let key : k ≡ f.key = same_key-true k f.key q.1 in inr cc
  ]

  pub keeps_dead : Keeps n old (Dead f.role f.key) with_dead
  keeps_dead = record {
    context = record {
      reachable = kept.reachable;
      links = kept.links;
      backs = kept.backs;
      sures = kept.sures;
      deads = λ r k m. each_with (λ x. Justified n old.key (Dead x.role x.key)) old.deads deads f e (λ x i. kept.deads x.role x.key i) just (record { role = r; key = k }) m;
      links_once = kept.links_once;
      backs_once = kept.backs_once;
      sures_once = kept.sures_once;
      deads_once = once_with old.deads deads f e kept.deads_once (new_dead old f fresh);
      in_turn = in_turn;
      store = store;
    };
    grows = grows old with_dead longer_dead;
    only = gained_dead;
  }

  pub absorbs_dead : (out new_out : List Note) → ClosedUpTo n old.key (record { backs = old.backs; sures = old.sures; deads = deads }) clauses live [] []
      → Sends n (Unit {0}) (Owes n (record { key = old.key; clauses = clauses; live = filter (λ k. nat_lt k (length old.clauses)) live; links = old.links; backs = old.backs; sures = old.sures; deads = deads })) with_dead out new_out
      → Absorbs n old (Dead f.role f.key) with_dead out new_out
  absorbs_dead out new_out closed s = record {
    closed = none_waits n old.key (record { backs = old.backs; sures = old.sures; deads = deads }) clauses live closed;
    had = had_dead with_dead old.deads f e;
    risen = risen old with_dead longer_dead (let l = length_one_more old.deads deads f e in omega arith);
    sends = sends_less n _ (Owes n old) with_dead out new_out (owed_after n old clauses live old.backs old.sures deads (length old.clauses) refl continues) s;
  }
