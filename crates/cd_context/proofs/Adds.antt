-- One conclusion is added.
use Rattle.std.proofs.Common.{◌≡◌, ℕ, ◌+◌, ◌<◌, ◌≤◌, inl, inr, List, [], ◌∷◌, ◌++◌, length, refl, ap, sym, ◌∙◌, subst, arith}
use Rattle.std.proofs.lemmas.List.{append_assoc, append-nil, length-append}
use Rattle.cd_base.specs.Lists.{OneOf}
use Rattle.cd_base.specs.declared.normal.Normal.{Normal}
use Rattle.cd_base.proofs.Members.{member_get}
use Rattle.cd_clause.specs.declared.elem.Elem.{Elem}
use Rattle.cd_rules.specs.Facts.{ToldFacts, ConcludesFrom, IsPicked}
use Rattle.cd_store.specs.Store.{StoreState, IsNew, IsOutcome, IsStore}
use Rattle.cd_store.specs.declared.store.Added.{Added}
use Rattle.cd_store.specs.declared.store.Added.TheVariants.{New, Held}
use Rattle.cd_store.proofs.Picks.{picked_in, picked_from}
use Rattle.cd_context.specs.Justified.{IsInTurn}
use Rattle.cd_context.specs.TakeUp.{ClosedUpTo, Continues, IsTakenFrom, IsPutInto, IsWorking, TakesUpMore, Stays, Follows}
use Rattle.cd_context.proofs.TakeUps.{more_from, out_held, out_new}
use Rattle.cd_context.proofs.Waits.{working_new, takes_up_new, concluded_more, in_turn_new}

pub continues_refl : (store : StoreState) → Continues store store
continues_refl store = record { follows = ([], sym (append-nil store.clauses)); survivors = λ k m l. m; store = λ s. s }

follows_longer : (old new : List (List Elem)) → Follows old new → length old ≤ length new
follows_longer old new f = let l : length new ≡ length old + length f.0 = ap (λ z. length z) f.1 ∙ length-append old f.0 in omega arith

pub continues_trans : (first old new : StoreState) → Continues first old → Continues old new → Continues first new
continues_trans first old new a b = record {
  follows = (a.follows.0 ++ b.follows.0, b.follows.1 ∙ ap (λ w. w ++ b.follows.0) a.follows.1 ∙ append_assoc first.clauses a.follows.0 b.follows.0);
  survivors = λ k m l. let x : length first.clauses ≤ length old.clauses = follows_longer first.clauses old.clauses a.follows in a.survivors k (b.survivors k m (omega arith)) l;
  store = λ s. b.store (a.store s);
}

pub continues_new : (old new : StoreState) (o : List Elem) (k : ℕ) → IsNew old o new k → IsStore new.clauses new.live → Continues old new
continues_new old new o k s kept = record {
  follows = (o ∷ [], s.stored);
  survivors = λ m h l. elim (s.numbers m h) [ inl e ↦ let x = s.next in absurd (omega arith) | inr r ↦ r.0 ];
  store = λ _. kept;
}

-- what the loop that adds conclusions keeps: those of `out` are left
pub record IsAdding (n : Normal) (key : List ℕ) (told : ToldFacts) (first : StoreState) (first_waiting : List ℕ) (store : StoreState) (waiting : List ℕ) (out : List (List Elem)) : Type 0 where
  pub closed : ClosedUpTo n key told store.clauses store.live waiting out
  pub working : IsWorking n key told store.clauses waiting
  pub concluded : (o : List Elem) → OneOf o out → ConcludesFrom n key (λ c. OneOf c store.clauses) told o
  pub takes_up : TakesUpMore first.clauses first_waiting store.clauses waiting
  pub stays : Stays first.live first_waiting store.live waiting
  pub continues : Continues first store

module _ (n : Normal) (key : List ℕ) (told : ToldFacts) (first : StoreState) (fw : List ℕ) (old : StoreState) (waiting : List ℕ) (items : List (List Elem)) (o : List Elem) (out : List (List Elem))
    (a : IsAdding n key told first fw old waiting items) (e : items ≡ o ∷ out) (new : StoreState) (added : Added) (t : IsOutcome old o new added) (kept : IsStore new.clauses new.live) where
  at : IsAdding n key told first fw old waiting (o ∷ out)
  at = subst (IsAdding n key told first fw old waiting) e a

  pub add_held : (i : ℕ) → added ≡ Held i → IsAdding n key told first fw new waiting out
  add_held i q =
      let h : IsOutcome old o new (Held i) = subst (λ x. IsOutcome old o new x) q t in
      subst (λ x. IsAdding n key told first fw x waiting out) (sym h.1) record {
        closed = out_held n key told old.clauses old.live waiting o out at.closed (_, picked_in old.clauses old.live i h.0.isin, h.0.covers);
        working = at.working;
        concluded = λ x m. at.concluded x (inr m);
        takes_up = at.takes_up;
        stays = at.stays;
        continues = at.continues;
      }

  pub add_new : (k : ℕ) → added ≡ New k → (after : List ℕ) → IsPutInto k waiting after → IsAdding n key told first fw new after out
  add_new k q after p =
      let h : IsNew old o new k = subst (λ x. IsOutcome old o new x) q t in
      let c : ConcludesFrom n key (λ x. OneOf x old.clauses) told o = at.concluded o (inl refl) in
      record {
        closed = out_new n key told old new waiting after o k out at.closed h p.isin;
        working = working_new n key told old new waiting after o k at.working c h p;
        concluded = λ x m. concluded_more n key told old.clauses new.clauses o x h.stored (at.concluded x (inr m));
        takes_up = takes_up_new old new waiting after fw first.clauses o k h p at.takes_up;
        stays = λ i m w. elim (h.numbers i m) [ inl q ↦ absurd (w (p.isin i (inl q))) | inr r ↦ at.stays i r.0 (λ z. w (p.isin i (inr z))) ];
        continues = continues_trans first old new at.continues (continues_new old new o k h kept);
      }

  -- what holds though the number of the new clause could not be put among those that wait
  pub add_turn : (k : ℕ) → added ≡ New k → IsInTurn n key told new.clauses
  add_turn k q =
      let h : IsNew old o new k = subst (λ x. IsOutcome old o new x) q t in
      in_turn_new n key told old new o k at.working.in_turn (at.concluded o (inl refl)) h

  pub add_continues : (k : ℕ) → added ≡ New k → Continues first new
  add_continues k q =
      let h : IsNew old o new k = subst (λ x. IsOutcome old o new x) q t in
      continues_trans first old new at.continues (continues_new old new o k h kept)

-- what waits loses a number
pub working_taken : (n : Normal) (key : List ℕ) (told : ToldFacts) (clauses : List (List Elem)) (waiting after : List ℕ) (m : ℕ) → IsWorking n key told clauses waiting → IsTakenFrom m waiting after → IsWorking n key told clauses after
working_taken n key told clauses waiting after m w t = record { in_turn = w.in_turn; in_range = λ i h. w.in_range i (t.after i h); fewer = let x = w.fewer in let y = t.count in omega arith }

-- a conclusion from clauses of numbers in range is one from stored clauses
pub concluded_of : (n : Normal) (key : List ℕ) (told : ToldFacts) (clauses : List (List Elem)) (numbers : List ℕ) (o : List Elem) → ((k : ℕ) → OneOf k numbers → k < length clauses)
    → ConcludesFrom n key (IsPicked clauses numbers) told o → ConcludesFrom n key (λ c. OneOf c clauses) told o
concluded_of n key told clauses numbers o range q = more_from n key told (IsPicked clauses numbers) (λ c. OneOf c clauses) o
    (λ c h. let r = picked_from clauses numbers c h in subst (λ x. OneOf x clauses) (sym r.2) (member_get clauses r.0 [] (range r.0 r.1))) q
