-- What `clap` has found for an argument after one more use of it or of another.
use Rattle.std.proofs.Common.{◌≡◌, Bool, cond, true, false, true≢false, List, [], ◌∷◌, ◌++◌, Option, Some, None, refl, ap, sym, ◌∙◌, inl, inr, bytes_eq}
use Rattle.std.specs.Option.{unwrap_or}
use Rattle.std.proofs.lemmas.Slice.Eq.{bytes_eq-Decides}
use Rattle.clap.specs.Walk.{Row, Text, all_of, with_values}
use Rattle.clap.specs.declared.builder.value_parser.Reading.{Reading}
use Rattle.clap.specs.declared.parser.matches.ValueSource.{ValueSource}
use Rattle.cd_words.proofs.Pieces.{is_or_not}

-- the values of an argument, where there are any
abbrev pub listed : List Text → Option (List Text)
listed [] = None
listed (v ∷ vs) = Some (v ∷ vs)

abbrev pub after_use : Bool → List Text → Option (List Text) → Option (List Text)
after_use same vs had = cond same (Some (unwrap_or had [] ++ vs)) had

not_same : (a b c : Text) → bytes_eq a c ≡ true → bytes_eq a b ≡ false → bytes_eq b c ≡ false
not_same a b c is isnt = elim (is_or_not (bytes_eq b c)) [
  | inl same ↦ absurd (true≢false (sym ((bytes_eq-Decides a b).1 ((bytes_eq-Decides a c).0 is ∙ sym ((bytes_eq-Decides b c).0 same))) ∙ isnt))
  | inr differs ↦ differs
]

pub all_of-with_values : (id other : Text) (how : Reading) (source : ValueSource) (vs : List Text) (rows : List Row)
    → all_of id (with_values other how source vs rows) ≡ after_use (bytes_eq other id) vs (all_of id rows)
all_of-with_values id other how source vs [] = elim (is_or_not (bytes_eq other id)) [
  | inl is ↦ rw is refl
  | inr isnt ↦ rw isnt refl
]
all_of-with_values id other how source vs (r ∷ rows) = elim (is_or_not (bytes_eq r.id other)) [
  | inl here ↦
      let same : bytes_eq r.id id ≡ bytes_eq other id = ap (λ (t : Text). bytes_eq t id) ((bytes_eq-Decides r.id other).0 here) in
      elim (is_or_not (bytes_eq other id)) [
        | inl is ↦ let too : bytes_eq r.id id ≡ true = same ∙ is in rw (here, too, is) refl
        | inr isnt ↦ let too : bytes_eq r.id id ≡ false = same ∙ isnt in rw (here, too, isnt) refl
      ]
  | inr there ↦ elim (is_or_not (bytes_eq r.id id)) [
    | inl is ↦ let differs : bytes_eq other id ≡ false = not_same r.id other id is there in rw (there, is, differs) refl
    | inr isnt ↦ rw (there, isnt) (all_of-with_values id other how source vs rows)
  ]
]
