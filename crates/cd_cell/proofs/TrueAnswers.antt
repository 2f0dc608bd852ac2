-- What a context tells is true in every model, where its cell is one of closed cells.
use Rattle.std.proofs.Common.{◌≡◌, ◌↔◌, ◌⊎◌, ℕ, Bool, true, List, [], ◌∷◌, subst, inl, inr}
use Rattle.std.proofs.lemmas.Bool.{both_ways}
use Rattle.cd_base.specs.Keys.{is_named, plain}
use Rattle.cd_base.specs.Lists.{OneOf}
use Rattle.cd_base.specs.declared.normal.Normal.{Normal}
use Rattle.cd_clause.specs.Derivations.{Derived, IsSingle}
use Rattle.cd_clause.specs.declared.elem.Elem.{Elem}
use Rattle.cd_clause.specs.declared.elem.Elem.TheVariants.{Plain}
use Rattle.cd_clause.proofs.Elements.{alone_cases}
use Rattle.cd_context.specs.OpenNames.{IsOpenName}
use Rattle.cd_context.specs.State.{State, live_of}
use Rattle.cd_model.specs.Canonical.{chosen}
use Rattle.cd_model.specs.Exactness.{AllIn, Exact, IsTest}
use Rattle.cd_model.proofs.Choice.{Made, made, empty_from_none}
use Rattle.cd_cell.specs.Cells.{CellState}
use Rattle.cd_cell.specs.Subsumers.{HasContext, IsReadingOf, IsReadingIn}
use Rattle.cd_cell.specs.TrueAnswers.{IsTrueReading, IsTrueReadingIn, IsTrueTest, IsTrueTestIn, Agree, SameReadings}
use Rattle.cd_cell.specs.declared.reading.Reading.{Reading}
use Rattle.cd_cell.specs.declared.reading.Reading.TheVariants.{Unsatisfiable, Of}
use Rattle.cd_cell.proofs.CellAnswers.{cell_exactness, derived_at}

-- a named atom that is above an atom is read to be so, or to be left open
read_or_open : (n : Normal) (a : ℕ) (live : List (List Elem)) → Exact n a live → (OneOf [] live → ⊥) → (b : ℕ) → is_named n b ≡ true → AllIn n a b → IsSingle live b ⊎ IsOpenName n live b
read_or_open n a live x o b named every =
    let w : Made n (chosen n live) live (Plain b) = made n live (empty_from_none live o) (Plain b) (x.all_chosen o b every) in
    elim (alone_cases (Plain b) w.clause w.eligible.isin) [
      | inl alone ↦ inl (w.clause, w.isin, alone)
      | inr others ↦ inr (named, (w.clause, w.isin, (w.eligible, others)))
    ]

-- what live clauses that are derived and exact tell is true
pub true_of_exact : (n : Normal) (a : ℕ) (live : List (List Elem)) (reading : Reading) → IsReadingOf n live reading → Exact n a live → ((c : List Elem) → OneOf c live → Derived n (plain a ∷ []) c)
    → IsTrueReading n a reading
true_of_exact n a live Unsatisfiable h e derived = e.empty_none h
true_of_exact n a live (Of above left_open) h e derived = record {
  some = λ none. h.0 (e.none_empty none);
  above_all = λ b m. let w = (h.1 b).0 m in (w.0, e.single_all b w.1);
  asked = λ b m. let w = (h.2 b).0 m in (w.0, (w.1.0, derived w.1.0 w.1.1, w.1.2));
  every = λ b named every. elim (read_or_open n a live e h.0 b named every) [
    | inl s ↦ inl ((h.1 b).1 (named, s))
    | inr o ↦ inr ((h.2 b).1 o)
  ];
}

-- what a context of closed cells tells is true
pub exact_reading : (c : CellState) (a : ℕ) (reading : Reading) → HasContext c.contexts a → IsReadingIn c.normal c.contexts a reading → IsTrueReadingIn c a reading
exact_reading c a reading here is below closure roles cells closed i at =
    true_of_exact c.normal a _ reading (is here.0 here.1) ((cell_exactness c.normal below closure roles cells closed i c at).exact a here.0 here.1)
    (derived_at c.normal cells closed i c at (plain a ∷ []) here.0 here.1)

true_test : (n : Normal) (a : ℕ) (others : List ℕ) (live : List (List Elem)) (empty : Bool) → (empty ≡ true) ↔ OneOf [] live → IsTest n a others live → IsTrueTest n a others empty
true_test n a others live empty is t = record {
  some = λ h. t.empty_some (is.0 h);
  one = λ b e h. t.one_all b e (is.0 h);
  none = λ h b m every. t.open_none (λ z. both_ways empty h (is.1 z)) b m every;
}

-- what the context of a key tells is true
pub exact_test : (c : CellState) (key : List ℕ) (empty : Bool) (s : State) → OneOf (key, s) c.contexts → (empty ≡ true) ↔ OneOf [] (live_of s) → IsTrueTestIn c key empty
exact_test c key empty s m is below closure roles cells closed i at a others e =
    true_test c.normal a others (live_of s) empty is
    ((cell_exactness c.normal below closure roles cells closed i c at).test a others s (subst (λ (k : List ℕ). OneOf (k, s) c.contexts) e m))

agreed : (n : Normal) (a : ℕ) (x y : Reading) → IsTrueReading n a x → IsTrueReading n a y → Agree x y
agreed n a Unsatisfiable Unsatisfiable p q = tt
agreed n a Unsatisfiable (Of above left_open) p q = q.some p
agreed n a (Of above left_open) Unsatisfiable p q = p.some q
agreed n a (Of above left_open) (Of other_above other_open) p q = (
  λ b m. let w = p.above_all b m in q.every b w.0 w.1,
  λ b m. let w = q.above_all b m in p.every b w.0 w.1,
)

-- both readings are true
pub same_readings : SameReadings
same_readings n below closure roles cells others closed also i j c d at at_other a here there x y is other =
    agreed n a x y
    (true_of_exact n a _ x (is here.0 here.1) ((cell_exactness n below closure roles cells closed i c at).exact a here.0 here.1) (derived_at n cells closed i c at (plain a ∷ []) here.0 here.1))
    (true_of_exact n a _ y (other there.0 there.1) ((cell_exactness n below closure roles others also j d at_other).exact a there.0 there.1) (derived_at n others also j d at_other (plain a ∷ []) there.0 there.1))
