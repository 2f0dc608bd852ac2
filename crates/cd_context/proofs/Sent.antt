-- What is sent is owed, and was not owed before.
use Rattle.std.proofs.Common.{◌≡◌, ℕ, ◌<◌, inl, inr, Bool, true, List, [], ◌∷◌, ◌++◌, length, get_or, filter, nat_lt, refl, sym, ap, ◌∙◌, subst, arith}
use Rattle.std.proofs.lemmas.Bool.{cond_both, ltb-true}
use Rattle.std.proofs.lemmas.List.{get_or_append_left, append-nil}
use Rattle.cd_base.specs.Lists.{OneOf}
use Rattle.cd_base.specs.declared.normal.Normal.{Normal}
use Rattle.cd_clause.specs.Numbers.{picked}
use Rattle.cd_clause.specs.declared.elem.Elem.{Elem}
use Rattle.cd_rules.specs.declared.facts.BackFact.{BackFact}
use Rattle.cd_rules.specs.declared.facts.DeadFact.{DeadFact}
use Rattle.cd_rules.specs.declared.facts.SureFact.{SureFact}
use Rattle.cd_store.proofs.Picks.{picked_in, picked_from}
use Rattle.cd_store.specs.Store.{StoreState}
use Rattle.cd_context.specs.declared.facts.Fact.TheVariants.{Link, Back, Sure, Dead}
use Rattle.cd_context.specs.declared.facts.Note.{Note}
use Rattle.cd_context.specs.Contract.{Sends}
use Rattle.cd_context.specs.Owes.{Owes, owes_link, owes_back, owes_sure, owes_dead}
use Rattle.cd_context.specs.State.{State, live_of}
use Rattle.cd_context.specs.TakeUp.{Continues}

-- what was noted for an empty list is moved to the end of another
pub sends_moved : (n : Normal) (Done : Type 0) (W : Note → Type 0) (s : State) (old notes out new_out : List Note) → old ≡ [] → Sends n Done W s old notes → Done → new_out ≡ out ++ notes → Sends n (Unit {0}) W s out new_out
sends_moved n Done W s old notes out new_out z a done e =
    let q : notes ≡ a.added = a.follows ∙ ap (λ w. w ++ a.added) z in
    record { added = a.added; follows = e ∙ ap (λ w. out ++ w) q; only = a.only; every = λ u note o. a.every done note o }

-- less was owed before
pub sends_less : (n : Normal) (W W' : Note → Type 0) (s : State) (out new_out : List Note) → ((note : Note) → W note → W' note) → Sends n (Unit {0}) W s out new_out → Sends n (Unit {0}) W' s out new_out
sends_less n W W' s out new_out f a = record {
  added = a.added;
  follows = a.follows;
  only = a.only;
  every = λ u note o. elim (a.every u note o) [ inl w ↦ inl (f note w) | inr m ↦ inr m ];
}

of_filtered : {X : Type 0} (p : X → Bool) (x : X) (xs : List X) → OneOf x (filter p xs) → OneOf x xs × (p x ≡ true)
of_filtered p x [] m = absurd m
of_filtered {X} p x (y ∷ xs) m =
    cond_both (p y) (y ∷ filter p xs) (filter p xs) (λ (l : List X). OneOf x l → OneOf x (y ∷ xs) × (p x ≡ true))
    (λ t h. elim h [ inl e ↦ (inl e, ap p e ∙ t) | inr k ↦ (let r = of_filtered p x xs k in (inr r.0, r.1)) ])
    (λ t h. let r = of_filtered p x xs h in (inr r.0, r.1))
    m

-- a live clause that was stored before was live before
live_before : (old new : StoreState) (stored : ℕ) → stored ≡ length old.clauses → Continues old new → (c : List Elem) → OneOf c (picked new.clauses (filter (λ k. nat_lt k stored) new.live)) → OneOf c (picked old.clauses old.live)
live_before old new stored e t c m =
    let r = picked_from new.clauses (filter (λ k. nat_lt k stored) new.live) c m in
    let f = of_filtered (λ k. nat_lt k stored) r.0 new.live r.1 in
    let a : r.0 < stored = ltb-true r.0 stored f.1 in
    let b : r.0 < length old.clauses = omega arith in
    subst (λ x. OneOf x (picked old.clauses old.live)) (sym (r.2 ∙ ap (λ cs. get_or cs r.0 []) t.follows.1 ∙ get_or_append_left old.clauses t.follows.0 [] r.0 b))
    (picked_in old.clauses old.live r.0 (t.survivors r.0 f.0 b))

-- what is owed for live clauses that are live in the other state too, towards the same links
owed_for : (n : Normal) (s t : State) → s.key ≡ t.key → s.links ≡ t.links → ((c : List Elem) → OneOf c (live_of s) → OneOf c (live_of t)) → (note : Note) → Owes n s note → Owes n t note
owed_for n s t k l f note (owes_link r key c m e q) = owes_link r key c (f c m) e (subst (λ w. note ≡ record { key = key; fact = Link w r }) k q)
owed_for n s t k l f note (owes_back h r c x i m e a u q) = owes_back h r c x (subst (λ w. OneOf (record { key = h; role = r }) w) l i) (f c m) e a u (subst (λ w. note ≡ record { key = h; fact = Back r w x.atom }) k q)
owed_for n s t k l f note (owes_sure h r c x i m e a u q) = owes_sure h r c x (subst (λ w. OneOf (record { key = h; role = r }) w) l i) (f c m) e a u (subst (λ w. note ≡ record { key = h; fact = Sure r w x.atom }) k q)
owed_for n s t k l f note (owes_dead h r i m q) = owes_dead h r (subst (λ w. OneOf (record { key = h; role = r }) w) l i) (f [] m) (subst (λ w. note ≡ record { key = h; fact = Dead r w }) k q)

-- what the live clauses of before owe was owed before
pub owed_after : (n : Normal) (old : State) (clauses : List (List Elem)) (live : List ℕ) (backs : List BackFact) (sures : List SureFact) (deads : List DeadFact) (stored : ℕ) → stored ≡ length old.clauses → Continues (record { clauses = old.clauses; live = old.live }) (record { clauses = clauses; live = live })
    → (note : Note) → Owes n (record { key = old.key; clauses = clauses; live = filter (λ k. nat_lt k stored) live; links = old.links; backs = backs; sures = sures; deads = deads }) note → Owes n old note
owed_after n old clauses live backs sures deads stored e t note o =
    owed_for n (record { key = old.key; clauses = clauses; live = filter (λ k. nat_lt k stored) live; links = old.links; backs = backs; sures = sures; deads = deads }) old refl refl
    (live_before (record { clauses = old.clauses; live = old.live }) (record { clauses = clauses; live = live }) stored e t) note o

-- what no clause owes
pub owed_by_none : (n : Normal) (s : State) → ((c : List Elem) → OneOf c (live_of s) → ⊥) → (note : Note) → Owes n s note → ⊥
owed_by_none n s none note (owes_link r key c m e q) = none c m
owed_by_none n s none note (owes_back h r c x i m e a u q) = none c m
owed_by_none n s none note (owes_sure h r c x i m e a u q) = none c m
owed_by_none n s none note (owes_dead h r i m q) = none [] m

pub none_below_zero : (clauses : List (List Elem)) (live : List ℕ) (c : List Elem) → OneOf c (picked clauses (filter (λ k. nat_lt k 0) live)) → ⊥
none_below_zero clauses live c m =
    let r = picked_from clauses (filter (λ k. nat_lt k 0) live) c m in
    let f = of_filtered (λ k. nat_lt k 0) r.0 live r.1 in
    let a : r.0 < 0 = ltb-true r.0 0 f.1 in
    absurd (omega arith)

-- nothing is sent where nothing came to be owed
pub sends_none : (n : Normal) (s : State) (out : List Note) → Sends n (Unit {0}) (Owes n s) s out out
sends_none n s out = record { added = []; follows = sym (append-nil out); only = λ note m. absurd m; every = λ u note o. inl o }
