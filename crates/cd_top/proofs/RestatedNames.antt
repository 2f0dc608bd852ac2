-- Names to which others are added, and the numbers that they have then.
use Rattle.std.proofs.Common.{◌≡◌, ◌≢◌, ℕ, suc, ◌+◌, ◌<◌, Bool, true, false, not, ◌||◌, cond, List, [], ◌∷◌, ◌++◌, length, get_or, take, refl, sym, ap, subst, ◌∙◌, arith, append_assoc, inl, inr, length-take}
use Rattle.std.specs.Prelude.{AllPairs}
use Rattle.std.specs.List.{All, Contains, list_any, position_or_len}
use Rattle.std.specs.Str.{bytes_eq}
use Rattle.std.proofs.lemmas.Bool.{false≢true, cond_both, cases_order}
use Rattle.std.proofs.lemmas.List.{append-nil, get_or_default}
use Rattle.std.proofs.lemmas.List.Elements.{All-append, All-cons, All-nil, Contains-append_left, Contains-append_right}
use Rattle.std.proofs.lemmas.List.Folds.{list_any_at}
use Rattle.std.proofs.lemmas.List.Sums.{passes_at_first}
use Rattle.std.proofs.lemmas.Slice.Eq.{bytes_eq-Decides}
use Rattle.cd_meaning.specs.Hierarchy.{name_of}
use Rattle.cd_meaning.specs.Iri.{thing, nothing, reserved_classes}
use Rattle.cd_names.specs.Names.{add_name, number}
use Rattle.cd_taxonomy.proofs.Lists.{Contains-first, Contains-cases}

-- what holds of the names, and of those with one more at the end
added : (P : List (List ℕ) → Type 0) (xs : List (List ℕ)) (i : List ℕ)
    → (list_any (bytes_eq i) xs ≡ true → P xs) → (list_any (bytes_eq i) xs ≡ false → P (xs ++ i ∷ [])) → P (add_name xs i)
added P xs i old new = cond_both (list_any (bytes_eq i) xs) xs (xs ++ i ∷ []) P old new

same_bytes : (i : List ℕ) → bytes_eq i i ≡ true
same_bytes i = (bytes_eq-Decides i i).1 refl

-- ---- a name that is there

pub any_there : (i : List ℕ) (xs : List (List ℕ)) → Contains xs i → list_any (bytes_eq i) xs ≡ true
any_there i xs (k, inside, at) = list_any_at (bytes_eq i) xs k i inside ((bytes_eq-Decides i (get_or xs k i)).1 (sym at))

pub there_from_any : (i : List ℕ) (xs : List (List ℕ)) → list_any (bytes_eq i) xs ≡ true → Contains xs i
there_from_any i [] h = absurd (false≢true h)
there_from_any i (x ∷ xs) h =
    let P : Bool → Type 0 = λ t. bytes_eq i x ≡ t → (t || list_any (bytes_eq i) xs) ≡ true → Contains (x ∷ xs) i in
    (elim (bytes_eq i x) as P [
      | true ↦ λ same _. (0, omega arith, sym ((bytes_eq-Decides i x).0 same))
      | false ↦ λ _ rest. let more = there_from_any i xs rest in (suc more.0, omega (arith, more.1), more.2)
    ]) refl h

pub there_added : (xs : List (List ℕ)) (i j : List ℕ) → Contains xs i → Contains (add_name xs j) i
there_added xs i j at = added (λ ys. Contains ys i) xs j (λ _. at) (λ _. Contains-append_left xs (j ∷ []) i at)

pub new_there : (xs : List (List ℕ)) (i : List ℕ) → Contains (add_name xs i) i
new_there xs i = added (λ ys. Contains ys i) xs i (λ there. there_from_any i xs there) (λ _. Contains-append_right xs (i ∷ []) i (Contains-first i []))

pub all_added : (P : List ℕ → Type 0) (xs : List (List ℕ)) (i : List ℕ) → All P xs → P i → All P (add_name xs i)
all_added P xs i all here = added (All P) xs i (λ _. all) (λ _. All-append P xs (i ∷ []) all (All-cons P i [] here (All-nil P)))

-- ---- its number

number_there : (i : List ℕ) (xs more : List (List ℕ)) → list_any (bytes_eq i) xs ≡ true → number (xs ++ more) i ≡ number xs i
number_there i [] more h = absurd (false≢true h)
number_there i (x ∷ xs) more h =
    let P : Bool → Type 0 = λ t. (t || list_any (bytes_eq i) xs) ≡ true → cond (not t) (1 + number (xs ++ more) i) 0 ≡ cond (not t) (1 + number xs i) 0 in
    (elim (bytes_eq i x) as P [ true ↦ λ _. refl | false ↦ λ rest. ap (λ (n : ℕ). 1 + n) (number_there i xs more rest) ]) h

number_new : (i : List ℕ) (xs more : List (List ℕ)) → number (xs ++ i ∷ more) i ≡ number xs i
number_new i [] more = ap (λ (t : Bool). cond (not t) (1 + number more i) 0) (same_bytes i)
number_new i (x ∷ xs) more =
    let P : Bool → Type 0 = λ t. cond (not t) (1 + number (xs ++ i ∷ more) i) 0 ≡ cond (not t) (1 + number xs i) 0 in
    elim (bytes_eq i x) as P [ true ↦ refl | false ↦ ap (λ (n : ℕ). 1 + n) (number_new i xs more) ]

-- the later names are these and others behind them
abbrev pub IsFront : List (List ℕ) → List (List ℕ) → Type 0
IsFront xs later = (more : List (List ℕ)) × (later ≡ xs ++ more)

pub front_itself : (xs : List (List ℕ)) → IsFront xs xs
front_itself xs = ([], sym (append-nil xs))

pub front_added : (xs : List (List ℕ)) (i : List ℕ) (later : List (List ℕ)) → IsFront (add_name xs i) later → IsFront xs later
front_added xs i later = added (λ ys. IsFront ys later → IsFront xs later) xs i (λ _ h. h)
    (λ _ h. (i ∷ h.0, h.1 ∙ append_assoc xs (i ∷ []) h.0))

-- a name keeps the number with which it is added
pub number_stays : (xs : List (List ℕ)) (i : List ℕ) (later : List (List ℕ)) → IsFront (add_name xs i) later → number later i ≡ number xs i
number_stays xs i later = added (λ ys. IsFront ys later → number later i ≡ number xs i) xs i
    (λ there h. ap (λ (ys : List (List ℕ)). number ys i) h.1 ∙ number_there i xs h.0 there)
    (λ _ h. ap (λ (ys : List (List ℕ)). number ys i) (h.1 ∙ append_assoc xs (i ∷ []) h.0) ∙ number_new i xs h.0)

place_within : {X : Type 0} (p : X → Bool) (xs : List X) → list_any p xs ≡ true → position_or_len p xs < length xs
place_within p [] h = absurd (false≢true h)
place_within p (x ∷ xs) h =
    let P : Bool → Type 0 = λ t. (t || list_any p xs) ≡ true → cond (not t) (1 + position_or_len p xs) 0 < length (x ∷ xs) in
    (elim (p x) as P [ true ↦ λ _. omega arith | false ↦ λ rest. let less = place_within p xs rest in omega arith ]) h

pub number_inside : (xs : List (List ℕ)) (i : List ℕ) → Contains xs i → number xs i < length xs
number_inside xs i at = place_within (bytes_eq i) xs (any_there i xs at)

pub number_names : (xs : List (List ℕ)) (i d : List ℕ) → Contains xs i → get_or xs (number xs i) d ≡ i
number_names xs i d at = sym ((bytes_eq-Decides i (get_or xs (number xs i) d)).0 (passes_at_first (bytes_eq i) xs d (number_inside xs i at)))

-- ---- distinct names

pub same_number : (xs : List (List ℕ)) → AllPairs (λ a b. a ≢ b) xs → (a b : ℕ) → a < length xs → b < length xs → (d e : List ℕ) → get_or xs a d ≡ get_or xs b e → a ≡ b
same_number xs distinct a b a_in b_in d e same = elim (cases_order a b) [
  | inl is ↦ is
  | inr (inl less) ↦ absurd (distinct a b d less b_in (same ∙ get_or_default xs b e d b_in))
  | inr (inr more) ↦ absurd (distinct b a d more a_in (get_or_default xs b d e b_in ∙ sym same))
]

pub none_alike : AllPairs {X = List ℕ} (λ a b. a ≢ b) []
none_alike i j d less within = absurd (omega arith)

pub number_is : (xs : List (List ℕ)) → AllPairs (λ a b. a ≢ b) xs → (i : List ℕ) (k : ℕ) (d : List ℕ) → k < length xs → get_or xs k d ≡ i → number xs i ≡ k
number_is xs distinct i k d inside at =
    let there : Contains xs i = (k, inside, get_or_default xs k i d inside ∙ at) in
    same_number xs distinct (number xs i) k (number_inside xs i there) inside d d (number_names xs i d there ∙ sym at)

-- ---- many names

abbrev pub add_all : List (List ℕ) → List (List ℕ) → List (List ℕ)
add_all xs [] = xs
add_all xs (i ∷ is) = add_all (add_name xs i) is

pub front_all : (xs is later : List (List ℕ)) → IsFront (add_all xs is) later → IsFront xs later
front_all xs [] later h = h
front_all xs (i ∷ is) later h = front_added xs i later (front_all (add_name xs i) is later h)

pub stays_all : (xs is : List (List ℕ)) (i : List ℕ) → Contains xs i → Contains (add_all xs is) i
stays_all xs [] i at = at
stays_all xs (j ∷ is) i at = stays_all (add_name xs j) is i (there_added xs i j at)

pub there_all : (xs is : List (List ℕ)) (i : List ℕ) → Contains is i → Contains (add_all xs is) i
there_all xs [] i at = absurd (omega (arith, at.1))
there_all xs (j ∷ is) i at = elim (Contains-cases j is i at) [
  | inl same ↦ subst (λ (x : List ℕ). Contains (add_all (add_name xs j) is) x) same (stays_all (add_name xs j) is j (new_there xs j))
  | inr later ↦ there_all (add_name xs j) is i later
]

-- owl:Thing and owl:Nothing are the first two
pub at_start : (xs : List (List ℕ)) → take 2 xs ≡ reserved_classes → (name_of xs 0 ≡ thing) × (name_of xs 1 ≡ nothing)
at_start [] h = absurd cc
at_start (x ∷ []) h = absurd cc
at_start (x ∷ y ∷ xs) h = (cc, cc)

-- distinct names, of which the first two are owl:Thing and owl:Nothing
pub record AreDistinct (names : List (List ℕ)) : Type 0 where
  pub reserved : take 2 names ≡ reserved_classes
  pub distinct : AllPairs (λ a b. a ≢ b) names

pub two_distinct : (names : List (List ℕ)) → AreDistinct names → 1 < length names
two_distinct names known = omega (arith, length-take 2 names, ap length known.reserved)
