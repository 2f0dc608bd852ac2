-- Numbers that wait, and clauses that are stored in turn.
use Rattle.std.proofs.Common.{◌≡◌, ℕ, ◌+◌, ◌<◌, inl, inr, List, [], ◌∷◌, ◌++◌, length, reverse, ap, sym, ◌∙◌, subst, arith}
use Rattle.std.proofs.lemmas.List.{reverse-append, length-append}
use Rattle.cd_base.specs.Lists.{OneOf}
use Rattle.cd_base.specs.declared.normal.Normal.{Normal}
use Rattle.cd_base.proofs.Members.{member_left, member_right}
use Rattle.cd_clause.specs.declared.elem.Elem.{Elem}
use Rattle.cd_rules.specs.Facts.{ToldFacts, ConcludesFrom}
use Rattle.cd_store.specs.Store.{IsNew, StoreState}
use Rattle.cd_context.specs.Justified.{StoredInTurn, IsInTurn}
use Rattle.cd_context.specs.TakeUp.{IsPutInto, IsWorking, TakesUpMore}
use Rattle.cd_context.proofs.TakeUps.{more_from}

pub member_to_reverse : {X : Type 0} (xs : List X) (x : X) → OneOf x xs → OneOf x (reverse xs)
member_to_reverse [] x h = h
member_to_reverse (y ∷ xs) x (inl e) = subst (λ q. OneOf x q) (sym (reverse-append (y ∷ []) xs)) (member_right x (reverse xs) (y ∷ []) (inl e))
member_to_reverse (y ∷ xs) x (inr h) = subst (λ q. OneOf x q) (sym (reverse-append (y ∷ []) xs)) (member_left x (reverse xs) (y ∷ []) (member_to_reverse xs x h))

-- the conclusion of stored clauses is stored after them
in_turn_more : (n : Normal) (key : List ℕ) (told : ToldFacts) (cs : List (List Elem)) (o : List Elem) → IsInTurn n key told cs → ConcludesFrom n key (λ c. OneOf c cs) told o
    → IsInTurn n key told (cs ++ o ∷ [])
in_turn_more n key told cs o t q = subst (StoredInTurn n key told) (sym (reverse-append cs (o ∷ [])))
    (more_from n key told (λ c. OneOf c cs) (λ c. OneOf c (reverse cs)) o (λ c h. member_to_reverse cs c h) q, t)

-- a conclusion of stored clauses is one where one more is stored
pub concluded_more : (n : Normal) (key : List ℕ) (told : ToldFacts) (cs : List (List Elem)) (new : List (List Elem)) (x o : List Elem) → new ≡ cs ++ x ∷ []
    → ConcludesFrom n key (λ c. OneOf c cs) told o → ConcludesFrom n key (λ c. OneOf c new) told o
concluded_more n key told cs new x o e q = subst (λ z. ConcludesFrom n key (λ c. OneOf c z) told o) (sym e)
    (more_from n key told (λ c. OneOf c cs) (λ c. OneOf c (cs ++ x ∷ [])) o (λ c h. member_left c cs (x ∷ []) h) q)

pub in_turn_new : (n : Normal) (key : List ℕ) (told : ToldFacts) (old new : StoreState) (o : List Elem) (k : ℕ) → IsInTurn n key told old.clauses
    → ConcludesFrom n key (λ c. OneOf c old.clauses) told o → IsNew old o new k → IsInTurn n key told new.clauses
in_turn_new n key told old new o k t q s = subst (λ z. IsInTurn n key told z) (sym s.stored) (in_turn_more n key told old.clauses o t q)

pub working_new : (n : Normal) (key : List ℕ) (told : ToldFacts) (old new : StoreState) (waiting after : List ℕ) (o : List Elem) (k : ℕ) → IsWorking n key told old.clauses waiting
    → ConcludesFrom n key (λ c. OneOf c old.clauses) told o → IsNew old o new k → IsPutInto k waiting after → IsWorking n key told new.clauses after
working_new n key told old new waiting after o k w q s p =
    let l : length new.clauses ≡ length old.clauses + 1 = ap (λ z. length z) s.stored ∙ length-append old.clauses (o ∷ []) in
    record {
      in_turn = in_turn_new n key told old new o k w.in_turn q s;
      in_range = λ m h. elim (p.only m h) [ inl e ↦ let x = s.next in omega arith | inr i ↦ let x : m < length old.clauses = w.in_range m i in omega arith ];
      fewer = let x = w.fewer in let y = p.count in omega arith;
    }

pub takes_up_new : (old new : StoreState) (waiting after first_waiting : List ℕ) (first : List (List Elem)) (o : List Elem) (k : ℕ) → IsNew old o new k → IsPutInto k waiting after
    → TakesUpMore first first_waiting old.clauses waiting → TakesUpMore first first_waiting new.clauses after
takes_up_new old new waiting after fw first o k s p g =
    let l : length new.clauses ≡ length old.clauses + 1 = ap (λ z. length z) s.stored ∙ length-append old.clauses (o ∷ []) in let y = p.count in omega arith
