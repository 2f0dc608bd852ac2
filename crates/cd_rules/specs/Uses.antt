-- Which premise or fact a conclusion uses.
use Rattle.std.specs.Prelude.{◌≡◌, ℕ, ◌⊎◌, List, [], ◌∷◌, slice_index_or}
use Rattle.cd_base.specs.declared.normal.Normal.{Normal}
use Rattle.cd_clause.specs.declared.elem.Elem.{Elem}
use Rattle.cd_clause.specs.Rules.{Rests, Told, Concludes, by_init, by_neg, by_con, by_ex, by_back, by_sure, by_dead, by_all}
use Rattle.cd_rules.specs.declared.facts.BackFact.{BackFact}
use Rattle.cd_rules.specs.declared.facts.DeadFact.{DeadFact}
use Rattle.cd_rules.specs.declared.facts.SureFact.{SureFact}
use Rattle.cd_rules.specs.Facts.{IsPicked, ToldFacts, told_from, ConcludesFrom}

-- one of the premises of Con is the clause
abbrev pub RestsUse : (n : Normal) (Has : List Elem → Type 0) (left : List ℕ) (m : List Elem)
    → Rests n Has left m → List Elem → Type 0
RestsUse n Has [] m r p = ⊥
RestsUse n Has (a ∷ left) m r p = (r.0 ≡ p) ⊎ RestsUse n Has left r.3.tail r.3.rests p

-- the conclusion has the clause as a premise
abbrev pub Uses : (n : Normal) (key : List ℕ) (Has : List Elem → Type 0) (told : Told)
    (d : List Elem) → Concludes n key Has told d → List Elem → Type 0
Uses n key Has told d (by_init a m s) p = ⊥
Uses n key Has told d (by_neg a c h e m s) p = c ≡ p
Uses n key Has told d (by_con x m k r s) p = RestsUse n Has x.left m r p
Uses n key Has told d (by_ex t c m h e s) p = c ≡ p
Uses n key Has told d (by_back t c r k m h e b u s) p = c ≡ p
Uses n key Has told d (by_sure t c r k m h e b u s) p = c ≡ p
Uses n key Has told d (by_dead c r k h e b s) p = c ≡ p
Uses n key Has told d (by_all t c b r k m h e hb eb u s) p = (c ≡ p) ⊎ (b ≡ p)

-- the conclusion uses the back
abbrev pub UsesBack : (n : Normal) (key : List ℕ) (Has : List Elem → Type 0) (told : Told)
    (d : List Elem) → Concludes n key Has told d → BackFact → Type 0
UsesBack n key Has told d (by_init a m s) f = ⊥
UsesBack n key Has told d (by_neg a c h e m s) f = ⊥
UsesBack n key Has told d (by_con x m k r s) f = ⊥
UsesBack n key Has told d (by_ex t c m h e s) f = ⊥
UsesBack n key Has told d (by_back t c r k m h e b u s) f =
    record { role = r; key = k; atom = t.atom } ≡ f
UsesBack n key Has told d (by_sure t c r k m h e b u s) f = ⊥
UsesBack n key Has told d (by_dead c r k h e b s) f = ⊥
UsesBack n key Has told d (by_all t c b r k m h e hb eb u s) f = ⊥

-- the conclusion uses the sure
abbrev pub UsesSure : (n : Normal) (key : List ℕ) (Has : List Elem → Type 0) (told : Told)
    (d : List Elem) → Concludes n key Has told d → SureFact → Type 0
UsesSure n key Has told d (by_init a m s) f = ⊥
UsesSure n key Has told d (by_neg a c h e m s) f = ⊥
UsesSure n key Has told d (by_con x m k r s) f = ⊥
UsesSure n key Has told d (by_ex t c m h e s) f = ⊥
UsesSure n key Has told d (by_back t c r k m h e b u s) f = ⊥
UsesSure n key Has told d (by_sure t c r k m h e b u s) f =
    record { role = r; key = k; atom = t.atom } ≡ f
UsesSure n key Has told d (by_dead c r k h e b s) f = ⊥
UsesSure n key Has told d (by_all t c b r k m h e hb eb u s) f = ⊥

-- the conclusion uses the dead
abbrev pub UsesDead : (n : Normal) (key : List ℕ) (Has : List Elem → Type 0) (told : Told)
    (d : List Elem) → Concludes n key Has told d → DeadFact → Type 0
UsesDead n key Has told d (by_init a m s) f = ⊥
UsesDead n key Has told d (by_neg a c h e m s) f = ⊥
UsesDead n key Has told d (by_con x m k r s) f = ⊥
UsesDead n key Has told d (by_ex t c m h e s) f = ⊥
UsesDead n key Has told d (by_back t c r k m h e b u s) f = ⊥
UsesDead n key Has told d (by_sure t c r k m h e b u s) f = ⊥
UsesDead n key Has told d (by_dead c r k h e b s) f = record { role = r; key = k } ≡ f
UsesDead n key Has told d (by_all t c b r k m h e hb eb u s) f = ⊥

-- d is a conclusion that needs no premise
abbrev pub FromKey : Normal → List ℕ → List Elem → Type 0
FromKey n key d = ConcludesFrom n key (λ c. ⊥) (record { backs = []; sures = []; deads = [] }) d

-- d is a conclusion that uses the clause numbered `premise`, with others that are live and with these facts
abbrev pub FromClause : Normal → List ℕ → List (List Elem) → List ℕ → ℕ → ToldFacts → List Elem
    → Type 0
FromClause n key clauses live premise facts d =
    (q : ConcludesFrom n key (IsPicked clauses (premise ∷ live)) facts d)
    × Uses n key (IsPicked clauses (premise ∷ live)) (told_from facts) d q
    (slice_index_or clauses premise [])

-- the fact alone was told
abbrev pub only_back : BackFact → ToldFacts
only_back fact = record { backs = fact ∷ []; sures = []; deads = [] }

abbrev pub only_sure : SureFact → ToldFacts
only_sure fact = record { backs = []; sures = fact ∷ []; deads = [] }

abbrev pub only_dead : DeadFact → ToldFacts
only_dead fact = record { backs = []; sures = []; deads = fact ∷ [] }

-- d is a conclusion that uses the back, with clauses that are live
abbrev pub FromBack : Normal → List ℕ → List (List Elem) → List ℕ → BackFact → List Elem → Type 0
FromBack n key clauses live fact d =
    (q : ConcludesFrom n key (IsPicked clauses live) (only_back fact) d)
    × UsesBack n key (IsPicked clauses live) (told_from (only_back fact)) d q fact

-- d is a conclusion that uses the sure, with clauses that are live
abbrev pub FromSure : Normal → List ℕ → List (List Elem) → List ℕ → SureFact → List Elem → Type 0
FromSure n key clauses live fact d =
    (q : ConcludesFrom n key (IsPicked clauses live) (only_sure fact) d)
    × UsesSure n key (IsPicked clauses live) (told_from (only_sure fact)) d q fact

-- d is a conclusion that uses the dead, with clauses that are live
abbrev pub FromDead : Normal → List ℕ → List (List Elem) → List ℕ → DeadFact → List Elem → Type 0
FromDead n key clauses live fact d =
    (q : ConcludesFrom n key (IsPicked clauses live) (only_dead fact) d)
    × UsesDead n key (IsPicked clauses live) (told_from (only_dead fact)) d q fact
