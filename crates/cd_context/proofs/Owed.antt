-- What a context owes, by its clauses, their elements and its links.
use Rattle.std.proofs.Common.{◌≡◌, ◌⊎◌, ◌↔◌, Bool, ℕ, zero, suc, ◌<◌, ◌≤◌, true, false, List, [], ◌∷◌, ◌++◌, length, filter, get_or, drop, refl, sym, ◌∙◌, subst, inl, inr, arith}
use Rattle.std.specs.Prelude.{nat_lt}
use Rattle.std.specs.List.Sorted.{IsNonDecreasingBy, IsPartitionPoint}
use Rattle.std.proofs.lemmas.Bool.{cases_lt, lt-ltb, ltb-true, ltb-false, false≢true}
use Rattle.cd_base.specs.Lists.{OneOf, SameSet}
use Rattle.cd_base.specs.declared.normal.Normal.{Normal}
use Rattle.cd_base.specs.declared.normal.Triple.{Triple}
use Rattle.cd_base.proofs.Members.{member_at, member_get, member_right, member_cases}
use Rattle.cd_clause.specs.declared.elem.Elem.{Elem}
use Rattle.cd_clause.specs.declared.elem.Elem.TheVariants.{Plain, Exist}
use Rattle.cd_clause.specs.Elements.{Eligible, IsCase, IsGreatestAt}
use Rattle.cd_clause.specs.Numbers.{picked}
use Rattle.cd_clause.proofs.Eligibles.{eligible_alone, eligible_one, none_eligible}
use Rattle.cd_store.specs.Store.{IsAscending}
use Rattle.cd_store.proofs.Picks.{picked_in, picked_from}
use Rattle.cd_rules.specs.declared.facts.BackFact.{BackFact}
use Rattle.cd_rules.specs.declared.facts.DeadFact.{DeadFact}
use Rattle.cd_rules.specs.declared.facts.SureFact.{SureFact}
use Rattle.cd_rules.specs.LookUps.{AreAtAtom}
use Rattle.cd_context.specs.declared.facts.Fact.TheVariants.{Back, Sure}
use Rattle.cd_context.specs.declared.facts.LinkFact.{LinkFact}
use Rattle.cd_context.specs.declared.facts.Note.{Note}
use Rattle.cd_context.specs.Contract.{Sends, ListsOwed}
use Rattle.cd_base.specs.Appends.{Appends}
use Rattle.cd_base.proofs.Appending.{OfOne, none, otherwise}
use Rattle.cd_base.specs.Appends.{AppendsOnce}
use Rattle.cd_context.specs.Owes.{Owes, owes_link, owes_back, owes_sure, owes_dead}
use Rattle.cd_context.specs.OwedParts.{AreFrom, IsUnderOne, IsOfUse, IsLinkNote, IsDeadNote, IsAlone, IsUsefulNote, IsAtomTold, IsLinkOf, IsToldTo, IsToldBy, IsOwedBy}
use Rattle.cd_context.specs.State.{State, live_of}
use Rattle.cd_rules.proofs.Found.{filtered_member, member_filtered}

-- ---- the greatest element of a clause

same_link : (own : List ℕ) (r : ℕ) (k : List ℕ) (note : Note) (s : ℕ) (l : List ℕ) → Exist s l ≡ Exist r k → IsLinkNote own s l note → IsLinkNote own r k note
same_link own r k note s l z p =
    let role : s ≡ r = cc in
    let key : l ≡ k = cc in
    subst (λ (m : List ℕ). IsLinkNote own r m note) key (subst (λ (t : ℕ). IsLinkNote own t l note) role p)

-- two answers to one question
same_answer : (P : Type 0) (b d : Bool) → (b ≡ true) ↔ P → (d ≡ true) ↔ P → b ≡ d
same_answer P true true p q = refl
same_answer P true false p q = absurd (false≢true (q.1 (p.0 refl)))
same_answer P false true p q = absurd (false≢true (p.1 (q.0 refl)))
same_answer P false false p q = refl

module _ (n : Normal) (own : List ℕ) (c : List Elem) (i : ℕ) (g : IsGreatestAt n c i) where
  -- any other eligible element is that one
  the_one : (e x : Elem) → get_or c i (Plain 0) ≡ x → Eligible n e c → e ≡ x
  the_one e x at el = eligible_one n c e (get_or c i (Plain 0)) el g.eligible ∙ at

  -- it is an existential: its link is owed
  pub link_owed : (r : ℕ) (k : List ℕ) (Done : Type 0) (old new : List Note) → get_or c i (Plain 0) ≡ Exist r k
      → Appends OneOf (IsLinkNote own r k) Done old new → Appends OneOf (IsLinkOf n own c) Done old new
  link_owed r k Done old new at a =
      otherwise (IsLinkNote own r k) (IsLinkOf n own c) Done Done old new
      (λ note p. (r, k, subst (λ (x : Elem). Eligible n x c) at g.eligible, p))
      (λ h note q. same_link own r k note q.0 q.1 (the_one (Exist q.0 q.1) (Exist r k) at q.2) q.3) (λ h. h) a

  -- it is an atom: no link is owed
  pub no_link : (a : ℕ) (Done : Type 0) (old : List Note) → get_or c i (Plain 0) ≡ Plain a → Appends OneOf (IsLinkOf n own c) Done old old
  no_link a Done old at = none (IsLinkOf n own c) Done old (λ h note q. let e : Exist q.0 q.1 ≡ Plain a = the_one (Exist q.0 q.1) (Plain a) at q.2 in absurd (exist_not_plain q.0 q.1 a e))
    where
      exist_not_plain : (r : ℕ) (k : List ℕ) (a : ℕ) → Exist r k ≡ Plain a → ⊥
      exist_not_plain r k a e = cc

  -- a clause with an element isn't empty
  some_element : c ≡ [] → ⊥
  some_element e = none_eligible n c (get_or c i (Plain 0)) e g.eligible

  -- it is an atom: its facts are told
  pub atom_told : (links : List LinkFact) (a : ℕ) (alone : Bool) (Done : Type 0) (old new : List Note) → get_or c i (Plain 0) ≡ Plain a → IsAlone c a alone
      → Appends OneOf (OfOne (IsUsefulNote n own a alone) links) Done old new → Appends OneOf (IsToldBy n own links c) Done old new
  atom_told links a alone Done old new at is w =
      otherwise (OfOne (IsUsefulNote n own a alone) links) (IsToldBy n own links c) Done Done old new
      (λ note p. (p.0, p.1, inr (a, (subst (λ (x : Elem). Eligible n x c) at g.eligible, (alone, is, p.2)))))
      (λ h note q. told note q.0 q.1 q.2) (λ h. h) w
    where
      told : (note : Note) (f : LinkFact) → OneOf f links → IsToldTo n own c f note → OfOne (IsUsefulNote n own a alone) links note
      told note f m (inl e) = absurd (some_element e.0)
      told note f m (inr t) =
          let same : Plain t.0 ≡ Plain a = the_one (Plain t.0) (Plain a) at t.1.0 in
          let atom : t.0 ≡ a = cc in
          let u : IsAtomTold n own c a f note = subst (λ (d : ℕ). IsAtomTold n own c d f note) atom t.1 in
          (f, m, subst (λ (d : Bool). IsUsefulNote n own a d f note) (same_answer (SameSet c (Plain a ∷ [])) u.1.0 alone u.1.1 is) u.1.2)

  -- it is an existential: nothing is told
  pub none_told : (links : List LinkFact) (r : ℕ) (k : List ℕ) (Done : Type 0) (old : List Note) → get_or c i (Plain 0) ≡ Exist r k → Appends OneOf (IsToldBy n own links c) Done old old
  none_told links r k Done old at = none (IsToldBy n own links c) Done old (λ h note q. told note q.0 q.2)
    where
      plain_not_exist : (a : ℕ) → Plain a ≡ Exist r k → ⊥
      plain_not_exist a e = cc

      told : (note : Note) (f : LinkFact) → IsToldTo n own c f note → ⊥
      told note f (inl e) = some_element e.0
      told note f (inr t) = plain_not_exist t.0 (the_one (Plain t.0) (Exist r k) at t.1.0)

-- the empty clause owes no link
pub empty_owes : (n : Normal) (own : List ℕ) (c : List Elem) (Done : Type 0) (old : List Note) → c ≡ [] → Appends OneOf (IsLinkOf n own c) Done old old
empty_owes n own c Done old e = none (IsLinkOf n own c) Done old (λ h note q. none_eligible n c (Exist q.0 q.1) e q.2)

-- ---- one link

pub of_use : (n : Normal) (a : ℕ) (axioms : List Triple) (r : ℕ) → AreAtAtom n.n3 a axioms → IsUnderOne n axioms r → IsOfUse n a r
of_use n a axioms r at u = let w = (at u.0).0 u.1 in (u.0, w.0, w.1, u.2)

pub use_found : (n : Normal) (a : ℕ) (axioms : List Triple) (r : ℕ) → AreAtAtom n.n3 a axioms → IsOfUse n a r → IsUnderOne n axioms r
use_found n a axioms r at u = (u.0, (at u.0).1 (u.1, u.2), u.3)

-- ---- the empty clause

-- an empty clause tells deads
pub deads_end : (n : Normal) (own : List ℕ) (links : List LinkFact) (c : List Elem) (Done : Type 0) (old new : List Note) → c ≡ []
    → Appends OneOf (OfOne (IsDeadNote own) links) Done old new → Appends OneOf (IsToldBy n own links c) Done old new
deads_end n own links c Done old new e a =
    otherwise (OfOne (IsDeadNote own) links) (IsToldBy n own links c) Done Done old new
    (λ note q. (q.0, q.1, inl (e, q.2)))
    (λ h note q. told note q.0 q.1 q.2) (λ h. h) a
  where
    told : (note : Note) (f : LinkFact) → OneOf f links → IsToldTo n own c f note → OfOne (IsDeadNote own) links note
    told note f m (inl w) = (f, m, w.1)
    told note f m (inr w) = absurd (subst (λ (l : List Elem). OneOf (Plain w.0) l) e w.1.0.isin)

-- ---- numbers

-- the first of some numbers
pub first_read : (xs : List ℕ) → 1 ≤ length xs → get_or xs 0 0 ≡ get_or xs 0 (get_or xs 0 0)
first_read [] l = absurd (omega arith)
first_read (x ∷ xs) l = refl

-- what stands from a place on, by places
dropped_member : (xs : List ℕ) (i m : ℕ) → OneOf m (drop i xs) → (k : ℕ) × (i ≤ k) × (k < length xs) × (get_or xs k 0 ≡ m)
dropped_member [] zero m h = absurd h
dropped_member [] (suc i) m h = absurd h
dropped_member (x ∷ xs) zero m h = let w = member_at m (x ∷ xs) h in (w.0, omega arith, w.1, w.2 0)
dropped_member (x ∷ xs) (suc i) m h = let w = dropped_member xs i m h in (suc w.0, omega (arith, w.1), omega (arith, w.2), w.3)

member_dropped : (xs : List ℕ) (i k : ℕ) → i ≤ k → k < length xs → OneOf (get_or xs k 0) (drop i xs)
member_dropped [] i k l h = absurd (omega arith)
member_dropped (x ∷ xs) zero k l h = member_get (x ∷ xs) k 0 h
member_dropped (x ∷ xs) (suc i) zero l h = absurd (omega arith)
member_dropped (x ∷ xs) (suc i) (suc k) l h = member_dropped xs i k (omega arith) (omega arith)

-- numbers that ascend don't decrease
pub ascends_by : (xs : List ℕ) → IsAscending xs → IsNonDecreasingBy (λ (k : ℕ). k) xs
ascends_by [] a i j d l h = absurd (omega arith)
ascends_by (x ∷ xs) a zero zero d l h = omega arith
ascends_by (x ∷ xs) a zero (suc j) d l h = let b : x < get_or xs j d = a.0 (get_or xs j d) (member_get xs j d (omega arith)) in omega arith
ascends_by (x ∷ xs) a (suc i) zero d l h = absurd (omega arith)
ascends_by (x ∷ xs) a (suc i) (suc j) d l h = ascends_by xs a.1 i j d (omega arith) (omega arith)

-- what stands from the point on where numbers are at least `least`
pub from_point : (numbers : List ℕ) (least i : ℕ) → IsPartitionPoint (λ (k : ℕ). nat_lt k least ≡ true) (λ (k : ℕ). nat_lt k least ≡ false) numbers i
    → AreFrom least numbers (drop i numbers)
from_point numbers least i p m = (
  λ h. (
      let w = dropped_member numbers i m h in (
        subst (λ (k : ℕ). OneOf k numbers) w.3 (member_get numbers w.0 0 w.2),
        subst (λ (k : ℕ). least ≤ k) w.3 (ltb-false (get_or numbers w.0 0) least (p.1 w.0 0 w.1 w.2)),
      )),
  λ h. (
      let w = member_at m numbers h.0 in
      elim (cases_lt w.0 i) [
        | inl l ↦ (let under : get_or numbers w.0 0 < least = ltb-true (get_or numbers w.0 0) least (p.0 w.0 0 (omega arith) l) in absurd (omega (arith, under, w.2 0, h.1)))
        | inr g ↦ subst (λ (k : ℕ). OneOf k (drop i numbers)) (w.2 0) (member_dropped numbers i w.0 g w.1)
      ]),
)

-- ---- all clauses

-- what a live clause owes is owed
pub owed_of_clause : (n : Normal) (s : State) (c : List Elem) → OneOf c (live_of s) → (note : Note) → IsOwedBy n s.key s.links c note → Owes n s note
owed_of_clause n s c m note (inl q) = owes_link q.0 q.1 c m q.2 q.3
owed_of_clause n s c m note (inr q) = told q.0 q.1 q.2
  where
    told : (f : LinkFact) → OneOf f s.links → IsToldTo n s.key c f note → Owes n s note
    told f l (inl w) = owes_dead f.key f.role l (subst (λ (d : List Elem). OneOf d (live_of s)) w.0 m) w.1
    told f l (inr (a, (el, (true, is, (u, q))))) =
        owes_sure f.key f.role c u.0 l m (subst (λ (b : ℕ). SameSet c (Plain b ∷ [])) (sym u.2) (is.0 refl)) u.1 u.3
        (subst (λ (b : ℕ). note ≡ record { key = f.key; fact = Sure f.role s.key b }) (sym u.2) q)
    told f l (inr (a, (el, (false, is, (u, q))))) =
        owes_back f.key f.role c u.0 l m (subst (λ (b : ℕ). IsCase n b c) (sym u.2) (el, λ t. false≢true (is.1 t))) u.1 u.3
        (subst (λ (b : ℕ). note ≡ record { key = f.key; fact = Back f.role s.key b }) (sym u.2) q)

-- what is owed is owed by a live clause
pub clause_of_owed : (n : Normal) (s : State) (note : Note) → Owes n s note → (c : List Elem) × OneOf c (live_of s) × IsOwedBy n s.key s.links c note
clause_of_owed n s note (owes_link r k c m e q) = (c, m, inl (r, k, e, q))
clause_of_owed n s note (owes_back h r c t l m e tm u q) =
    (c, m, inr (record { key = h; role = r }, l, inr (t.atom, (e.0, (false, (λ f. absurd (false≢true f), λ a. absurd (e.1 a)), ((t, tm, refl, u), q))))))
clause_of_owed n s note (owes_sure h r c t l m e tm u q) =
    (c, m, inr (record { key = h; role = r }, l, inr (t.atom, (eligible_alone n t.atom c e, (true, (λ f. e, λ a. refl), ((t, tm, refl, u), q))))))
clause_of_owed n s note (owes_dead h r l m q) = ([], m, inr (record { key = h; role = r }, l, inl (refl, q)))

-- what the clauses of these numbers owe
abbrev pub OwedByOne : Normal → List ℕ → List LinkFact → List (List Elem) → ℕ → Note → Type 0
OwedByOne n own links clauses k note = IsOwedBy n own links (get_or clauses k []) note

-- what the clauses of these numbers tell
abbrev pub ToldByOne : Normal → List ℕ → List LinkFact → List (List Elem) → ℕ → Note → Type 0
ToldByOne n own links clauses k note = IsToldBy n own links (get_or clauses k []) note

module _ (n : Normal) (key : List ℕ) (clauses : List (List Elem)) (live : List ℕ) (backs : List BackFact) (sures : List SureFact) (deads : List DeadFact) where
  -- what is owed from a number on is all that became owed since
  pub sends_since : (links : List LinkFact) (stored : ℕ) (found : List ℕ) (Done : Type 0) (old new : List Note)
      → AreFrom stored live found → Appends OneOf (OfOne (OwedByOne n key links clauses) found) Done old new
      → Sends n Done (Owes n (record { key = key; clauses = clauses; live = filter (λ k. nat_lt k stored) live; links = links; backs = backs; sures = sures; deads = deads }))
      (record { key = key; clauses = clauses; live = live; links = links; backs = backs; sures = sures; deads = deads }) old new
  sends_since links stored found Done old new from a =
      let now : State = record { key = key; clauses = clauses; live = live; links = links; backs = backs; sures = sures; deads = deads } in
      let before : State = record { key = key; clauses = clauses; live = filter (λ k. nat_lt k stored) live; links = links; backs = backs; sures = sures; deads = deads } in
      record {
        added = a.added;
        follows = a.follows;
        only = λ note m. let p = a.only note m in owed_of_clause n now (get_or clauses p.0 []) (picked_in clauses live p.0 ((from p.0).0 p.1).0) note p.2;
        every = λ h note o.
            let w = clause_of_owed n now note o in
            let r = picked_from clauses live w.0 w.1 in
            let by : OwedByOne n key links clauses r.0 note = subst (λ (d : List Elem). IsOwedBy n key links d note) r.2 w.2 in
            elim (cases_lt r.0 stored) [
              | inl l ↦ inl (owed_of_clause n before (get_or clauses r.0 [])
                  (picked_in clauses (filter (λ k. nat_lt k stored) live) r.0 (member_filtered (λ k. nat_lt k stored) r.0 live r.1 (lt-ltb r.0 stored l))) note by)
              | inr g ↦ inr (a.every h note (r.0, (from r.0).1 (r.1, g), by))
            ];
      }

  -- what is told to a new link is all that became owed by it
  pub sends_link : (earlier : List LinkFact) (link : LinkFact) (Done : Type 0) (old new : List Note)
      → Appends OneOf (OfOne (ToldByOne n key (link ∷ []) clauses) live) Done old new
      → Sends n Done (Owes n (record { key = key; clauses = clauses; live = live; links = earlier; backs = backs; sures = sures; deads = deads }))
      (record { key = key; clauses = clauses; live = live; links = earlier ++ link ∷ []; backs = backs; sures = sures; deads = deads }) old new
  sends_link earlier link Done old new a =
      let now : State = record { key = key; clauses = clauses; live = live; links = earlier ++ link ∷ []; backs = backs; sures = sures; deads = deads } in
      record {
        added = a.added;
        follows = a.follows;
        only = λ note m.
            let p = a.only note m in
            let t = p.2 in
            owed_of_clause n now (get_or clauses p.0 []) (picked_in clauses live p.0 p.1) note (inr (t.0, member_right t.0 earlier (link ∷ []) t.1, t.2));
        every = λ h note o. let w = clause_of_owed n now note o in came h note w.0 w.1 w.2;
      }
    where
      before : State
      before = record { key = key; clauses = clauses; live = live; links = earlier; backs = backs; sures = sures; deads = deads }

      came : Done → (note : Note) (c : List Elem) → OneOf c (picked clauses live) → IsOwedBy n key (earlier ++ link ∷ []) c note → Owes n before note ⊎ OneOf note a.added
      came h note c m (inl q) = inl (owed_of_clause n before c m note (inl q))
      came h note c m (inr q) = elim (member_cases q.0 earlier (link ∷ []) q.1) [
        | inl l ↦ inl (owed_of_clause n before c m note (inr (q.0, l, q.2)))
        | inr l ↦ (
            let r = picked_from clauses live c m in
            inr (a.every h note (r.0, r.1, (q.0, l, subst (λ (d : List Elem). IsToldTo n key d q.0 note) r.2 q.2))))
      ]

-- nothing is owed by clauses with numbers below 0
pub none_before : (n : Normal) (key : List ℕ) (clauses : List (List Elem)) (live : List ℕ) (links : List LinkFact) (backs : List BackFact) (sures : List SureFact) (deads : List DeadFact) (note : Note)
    → Owes n (record { key = key; clauses = clauses; live = filter (λ k. nat_lt k 0) live; links = links; backs = backs; sures = sures; deads = deads }) note → ⊥
none_before n key clauses live links backs sures deads note o =
    let before : State = record { key = key; clauses = clauses; live = filter (λ k. nat_lt k 0) live; links = links; backs = backs; sures = sures; deads = deads } in
    let w = clause_of_owed n before note o in
    let r = picked_from clauses (filter (λ k. nat_lt k 0) live) w.0 w.1 in
    let low : r.0 < 0 = ltb-true r.0 0 (filtered_member (λ k. nat_lt k 0) r.0 live r.1).1 in
    omega (arith, low)

-- all that is owed, each once
pub lists_owed : (n : Normal) (key : List ℕ) (clauses : List (List Elem)) (live : List ℕ) (links : List LinkFact) (backs : List BackFact) (sures : List SureFact) (deads : List DeadFact)
    (owed old new : List Note) (Done : Type 0)
    → Sends n (true ≡ true) (Owes n (record { key = key; clauses = clauses; live = filter (λ k. nat_lt k 0) live; links = links; backs = backs; sures = sures; deads = deads }))
    (record { key = key; clauses = clauses; live = live; links = links; backs = backs; sures = sures; deads = deads }) [] owed
    → AppendsOnce (λ note. OneOf note owed) Done old new
    → ListsOwed n Done (record { key = key; clauses = clauses; live = live; links = links; backs = backs; sures = sures; deads = deads }) old new
lists_owed n key clauses live links backs sures deads owed old new Done s a = record {
  added = a.added;
  follows = a.follows;
  only = λ note m. s.only note (subst (λ (l : List Note). OneOf note l) s.follows (a.only note m));
  once = a.once;
  every = λ h note o. elim (s.every refl note o) [
    | inl w ↦ absurd (none_before n key clauses live links backs sures deads note w)
    | inr m ↦ a.every h note (subst (λ (l : List Note). OneOf note l) (sym s.follows) m)
  ];
}
