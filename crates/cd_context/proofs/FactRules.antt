-- Where the clauses with the existential of a fact are at hand, each conclusion that uses the fact can be had from them.
use Rattle.std.proofs.Common.{◌≡◌, ◌↔◌, ◌<◌, ℕ, List, length, get_or, sym, subst}
use Rattle.cd_base.specs.Lists.{OneOf}
use Rattle.cd_base.specs.declared.normal.Normal.{Normal}
use Rattle.cd_base.proofs.Members.{member_at, member_get}
use Rattle.cd_clause.specs.Rules.{by_init, by_neg, by_con, by_ex, by_back, by_sure, by_dead, by_all}
use Rattle.cd_clause.specs.declared.elem.Elem.{Elem}
use Rattle.cd_clause.specs.declared.elem.Elem.TheVariants.{Exist}
use Rattle.cd_base.specs.Appends.{Appends}
use Rattle.cd_rules.specs.Among.{Among}
use Rattle.cd_rules.specs.Facts.{ConcludesFrom, IsPicked, told_from}
use Rattle.cd_rules.specs.Uses.{UsesBack, UsesSure, UsesDead, only_back, only_sure, only_dead, FromBack, FromSure, FromDead}
use Rattle.cd_rules.specs.declared.facts.BackFact.{BackFact}
use Rattle.cd_rules.specs.declared.facts.DeadFact.{DeadFact}
use Rattle.cd_rules.specs.declared.facts.SureFact.{SureFact}
use Rattle.cd_store.proofs.Picks.{picked_in, picked_from}
use Rattle.cd_store.specs.LookUps.{HasElem}

-- the clauses of the one list that have the existential are among those of the other
abbrev pub HasPicks : List (List Elem) → ℕ → List ℕ → List ℕ → List ℕ → Type 0
HasPicks clauses r k numbers others = (c : List Elem) → IsPicked clauses numbers c → OneOf (Exist r k) c → IsPicked clauses others c

-- of live numbers, these have each whose clause has the existential
pub picks_found : (clauses : List (List Elem)) (r : ℕ) (k : List ℕ) (live numbers : List ℕ) → ((m : ℕ) → OneOf m live → m < length clauses)
    → ((m : ℕ) → OneOf m live → HasElem clauses (Exist r k) m → OneOf m numbers) → HasPicks clauses r k live numbers
picks_found clauses r k live numbers range every c h m =
    let w = picked_from clauses live c h in
    subst (λ x. IsPicked clauses numbers x) (sym w.2) (picked_in clauses numbers w.0 (every w.0 w.1 (range w.0 w.1, subst (λ x. OneOf (Exist r k) x) w.2 m)))

-- numbers that are live
pub picks_live : (clauses : List (List Elem)) (r : ℕ) (k : List ℕ) (live numbers : List ℕ) → ((m : ℕ) → OneOf m numbers → OneOf m live) → HasPicks clauses r k numbers live
picks_live clauses r k live numbers alive c h m =
    let w = picked_from clauses numbers c h in
    subst (λ x. IsPicked clauses live x) (sym w.2) (picked_in clauses live w.0 (alive w.0 w.1))

back_from : (n : Normal) (key : List ℕ) (clauses : List (List Elem)) (f : BackFact) (numbers others : List ℕ) → HasPicks clauses f.role f.key numbers others → (d : List Elem)
    → (q : ConcludesFrom n key (IsPicked clauses numbers) (only_back f) d) → UsesBack n key (IsPicked clauses numbers) (told_from (only_back f)) d q f → FromBack n key clauses others f d
back_from n key clauses f numbers others p d (by_init a m s) w = absurd w
back_from n key clauses f numbers others p d (by_neg a c h e m s) w = absurd w
back_from n key clauses f numbers others p d (by_con x m k r s) w = absurd w
back_from n key clauses f numbers others p d (by_ex t c m h e s) w = absurd w
back_from n key clauses f numbers others p d (by_back t c r k m h e b u s) w = (by_back t c r k m (p c h (subst (λ (g : BackFact). OneOf (Exist g.role g.key) c) w e.isin)) e b u s, w)
back_from n key clauses f numbers others p d (by_sure t c r k m h e b u s) w = absurd w
back_from n key clauses f numbers others p d (by_dead c r k h e b s) w = absurd w
back_from n key clauses f numbers others p d (by_all t c b r k m h e hb eb u s) w = absurd w

sure_from : (n : Normal) (key : List ℕ) (clauses : List (List Elem)) (f : SureFact) (numbers others : List ℕ) → HasPicks clauses f.role f.key numbers others → (d : List Elem)
    → (q : ConcludesFrom n key (IsPicked clauses numbers) (only_sure f) d) → UsesSure n key (IsPicked clauses numbers) (told_from (only_sure f)) d q f → FromSure n key clauses others f d
sure_from n key clauses f numbers others p d (by_init a m s) w = absurd w
sure_from n key clauses f numbers others p d (by_neg a c h e m s) w = absurd w
sure_from n key clauses f numbers others p d (by_con x m k r s) w = absurd w
sure_from n key clauses f numbers others p d (by_ex t c m h e s) w = absurd w
sure_from n key clauses f numbers others p d (by_back t c r k m h e b u s) w = absurd w
sure_from n key clauses f numbers others p d (by_sure t c r k m h e b u s) w = (by_sure t c r k m (p c h (subst (λ (g : SureFact). OneOf (Exist g.role g.key) c) w e.isin)) e b u s, w)
sure_from n key clauses f numbers others p d (by_dead c r k h e b s) w = absurd w
sure_from n key clauses f numbers others p d (by_all t c b r k m h e hb eb u s) w = absurd w

dead_from : (n : Normal) (key : List ℕ) (clauses : List (List Elem)) (f : DeadFact) (numbers others : List ℕ) → HasPicks clauses f.role f.key numbers others → (d : List Elem)
    → (q : ConcludesFrom n key (IsPicked clauses numbers) (only_dead f) d) → UsesDead n key (IsPicked clauses numbers) (told_from (only_dead f)) d q f → FromDead n key clauses others f d
dead_from n key clauses f numbers others p d (by_init a m s) w = absurd w
dead_from n key clauses f numbers others p d (by_neg a c h e m s) w = absurd w
dead_from n key clauses f numbers others p d (by_con x m k r s) w = absurd w
dead_from n key clauses f numbers others p d (by_ex t c m h e s) w = absurd w
dead_from n key clauses f numbers others p d (by_back t c r k m h e b u s) w = absurd w
dead_from n key clauses f numbers others p d (by_sure t c r k m h e b u s) w = absurd w
dead_from n key clauses f numbers others p d (by_dead c r k h e b s) w = (by_dead c r k (p c h (subst (λ (g : DeadFact). OneOf (Exist g.role g.key) c) w e.isin)) e b s, w)
dead_from n key clauses f numbers others p d (by_all t c b r k m h e hb eb u s) w = absurd w

-- what was appended, of two words for the same clauses
appends_same : (P R : List Elem → Type 0) (Done : Type 0) (old new : List (List Elem)) → ((d : List Elem) → P d → R d) → ((d : List Elem) → R d → P d) → Appends Among P Done old new → Appends Among R Done old new
appends_same P R Done old new f g a = record { added = a.added; follows = a.follows; only = λ d m. f d (a.only d m); every = λ z d r. a.every z d (g d r) }

module _ (n : Normal) (key : List ℕ) (clauses : List (List Elem)) (live numbers : List ℕ) (range : (m : ℕ) → OneOf m live → m < length clauses) (alive : (m : ℕ) → OneOf m numbers → OneOf m live) where
  pub appends_back : (f : BackFact) → ((m : ℕ) → OneOf m live → HasElem clauses (Exist f.role f.key) m → OneOf m numbers) → (Done : Type 0) (old new : List (List Elem))
      → Appends Among (FromBack n key clauses numbers f) Done old new → Appends Among (FromBack n key clauses live f) Done old new
  appends_back f every Done old new a = appends_same (FromBack n key clauses numbers f) (FromBack n key clauses live f) Done old new
      (λ d q. back_from n key clauses f numbers live (picks_live clauses f.role f.key live numbers alive) d q.0 q.1)
      (λ d q. back_from n key clauses f live numbers (picks_found clauses f.role f.key live numbers range every) d q.0 q.1) a

  pub appends_sure : (f : SureFact) → ((m : ℕ) → OneOf m live → HasElem clauses (Exist f.role f.key) m → OneOf m numbers) → (Done : Type 0) (old new : List (List Elem))
      → Appends Among (FromSure n key clauses numbers f) Done old new → Appends Among (FromSure n key clauses live f) Done old new
  appends_sure f every Done old new a = appends_same (FromSure n key clauses numbers f) (FromSure n key clauses live f) Done old new
      (λ d q. sure_from n key clauses f numbers live (picks_live clauses f.role f.key live numbers alive) d q.0 q.1)
      (λ d q. sure_from n key clauses f live numbers (picks_found clauses f.role f.key live numbers range every) d q.0 q.1) a

  pub appends_dead : (f : DeadFact) → ((m : ℕ) → OneOf m live → HasElem clauses (Exist f.role f.key) m → OneOf m numbers) → (Done : Type 0) (old new : List (List Elem))
      → Appends Among (FromDead n key clauses numbers f) Done old new → Appends Among (FromDead n key clauses live f) Done old new
  appends_dead f every Done old new a = appends_same (FromDead n key clauses numbers f) (FromDead n key clauses live f) Done old new
      (λ d q. dead_from n key clauses f numbers live (picks_live clauses f.role f.key live numbers alive) d q.0 q.1)
      (λ d q. dead_from n key clauses f live numbers (picks_found clauses f.role f.key live numbers range every) d q.0 q.1) a

-- ---- live numbers

-- k is the number at place i, and live
abbrev pub OfLive : List ℕ → List ℕ → ℕ → ℕ → Type 0
OfLive candidates live i k = (k ≡ get_or candidates i 0) × OneOf k live

pub all_live : (candidates live : List ℕ) (k : ℕ) → ((i : ℕ) × (i < length candidates) × OfLive candidates live i k) ↔ (OneOf k candidates × OneOf k live)
all_live candidates live k = (
  λ q. (subst (λ z. OneOf z candidates) (sym q.2.0) (member_get candidates q.0 0 q.1), q.2.1),
  λ q. (let w = member_at k candidates q.0 in (w.0, w.1, (sym (w.2 0), q.1))),
)
