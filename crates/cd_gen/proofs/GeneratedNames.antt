-- The names of the generated document: how many, of which bytes, and that no two are one.
use Rattle.std.proofs.Common.{◌≡◌, ◌≢◌, ℕ, zero, suc, ◌+◌, ◌*◌, ◌%◌, ◌^◌, ◌<◌, true, List, [], ◌∷◌, ◌++◌, length, get_or, drop, flat_map, refl, sym, ap, ◌∙◌, subst, arith}
use Rattle.std.specs.Prelude.{codes, decimal}
use Rattle.std.specs.List.{All, AllPairs, list_all, range_with_len}
use Rattle.std.proofs.lemmas.Bool.{and_from}
use Rattle.std.proofs.lemmas.Fmt.{decimal_injective, decimal_by_steps}
use Rattle.std.proofs.lemmas.List.{length-append}
use Rattle.std.proofs.lemmas.List.Elements.{All-nil, All-cons, All-head, All-tail, All-append, All-weaker, All-same, All-from_recursion}
use Rattle.std.proofs.lemmas.List.Folds.{list_all-append}
use Rattle.std.proofs.lemmas.List.Kept.{AllPairs-cons}
use Rattle.cd_base.specs.Iri.{is_iri_byte, IsIri}
use Rattle.cd_meaning.specs.Iri.{thing, nothing}
use Rattle.cd_gen.specs.Generated.{iri, level_iri, level_classes, generated_classes, generated_roles}
use Rattle.cd_gen.proofs.Levels.{levels_more}

-- ---- how many

length_levels : (n : ℕ) → length (flat_map level_classes (range_with_len 0 n)) ≡ 4 * n
length_levels zero = refl
length_levels (suc n) =
    ap length (levels_more level_classes n) ∙ length-append (flat_map level_classes (range_with_len 0 n)) (level_classes n)
    ∙ (let e : length (flat_map level_classes (range_with_len 0 n)) + 4 ≡ 4 * suc n = omega (arith, length_levels n) in e)

pub length_classes : (n : ℕ) → length (generated_classes n) ≡ 4 * n + 4
length_classes n = omega (arith, length_levels n)

-- ---- of which bytes

digit_in_iri : (b : ℕ) → 47 < b → b < 58 → is_iri_byte b ≡ true
digit_in_iri b low high = grind arith

decimal_in_iri : (n : ℕ) → n < 2 ^ 64 → list_all is_iri_byte (decimal n) ≡ true
decimal_in_iri n small = decimal_by_steps (λ (m : ℕ) (ds : List ℕ). list_all is_iri_byte ds ≡ true)
    (λ m h. and_from (is_iri_byte (48 + m)) true (digit_in_iri (48 + m) (omega arith) (omega arith)) refl)
    (λ m ds h before. list_all-append is_iri_byte ds ((48 + m % 10) ∷ []) ∙ and_from (list_all is_iri_byte ds) (list_all is_iri_byte ((48 + m % 10) ∷ [])) before
    (and_from (is_iri_byte (48 + m % 10)) true (digit_in_iri (48 + m % 10) (omega arith) (omega arith)) refl))
    n small

nonempty : (b : ℕ) (bytes : List ℕ) → b ∷ bytes ≢ []
nonempty b bytes e = cc

level_is_iri : (letter level : ℕ) → is_iri_byte letter ≡ true → level < 2 ^ 64 → IsIri (level_iri (letter ∷ []) level)
level_is_iri letter level ok small = (nonempty _ _, and_from (is_iri_byte letter) (list_all is_iri_byte (decimal level)) ok (decimal_in_iri level small))

level_iris : (level : ℕ) → level < 2 ^ 64 → All IsIri (level_classes level)
level_iris level small = All-from_recursion IsIri (level_classes level)
    (level_is_iri 65 level refl small, (level_is_iri 66 level refl small, (level_is_iri 67 level refl small, (level_is_iri 85 level refl small, tt))))

levels_iris : (n : ℕ) → n < 2 ^ 64 → All IsIri (flat_map level_classes (range_with_len 0 n))
levels_iris zero small = All-nil IsIri
levels_iris (suc n) small = All-same IsIri _ _ (levels_more level_classes n)
    (All-append IsIri (flat_map level_classes (range_with_len 0 n)) (level_classes n) (levels_iris n (omega arith)) (level_iris n (omega arith)))

pub classes_iris : (n : ℕ) → n < 2 ^ 64 → All IsIri (generated_classes n)
classes_iris n small = All-append IsIri (generated_classes 0) (flat_map level_classes (range_with_len 0 n))
    (All-from_recursion IsIri (generated_classes 0) ((nonempty _ _, refl), ((nonempty _ _, refl), ((nonempty _ _, refl), ((nonempty _ _, refl), tt))))) (levels_iris n small)

-- ---- no two are one

-- the name of a class of a level below n, where the letter is not D or E
pub record IsOfLevel (n : ℕ) (name : List ℕ) : Type 0 where
  pub letter : ℕ
  pub level : ℕ
  pub below : level < n
  pub spelled : name ≡ level_iri (letter ∷ []) level
  pub not_d : letter ≢ 68
  pub not_e : letter ≢ 69

-- names of different letters or levels differ
apart : (a b i j : ℕ) → i < 2 ^ 64 → j < 2 ^ 64 → (a ≡ b → i ≢ j) → level_iri (a ∷ []) i ≢ level_iri (b ∷ []) j
apart a b i j small_i small_j differ same =
    differ (ap (λ (l : List ℕ). get_or l 10 0) same) (decimal_injective i j small_i small_j (ap (drop 11) same))

of_level : (letter n : ℕ) → letter ≢ 68 → letter ≢ 69 → IsOfLevel (suc n) (level_iri (letter ∷ []) n)
of_level letter n not_d not_e = record { letter = letter; level = n; below = omega arith; spelled = refl; not_d = not_d; not_e = not_e }

later : (n : ℕ) (name : List ℕ) → IsOfLevel n name → IsOfLevel (suc n) name
later n name h = record { letter = h.letter; level = h.level; below = omega (arith, h.below); spelled = h.spelled; not_d = h.not_d; not_e = h.not_e }

levels_of : (n : ℕ) → All (IsOfLevel n) (flat_map level_classes (range_with_len 0 n))
levels_of zero = All-nil (IsOfLevel 0)
levels_of (suc n) = All-same (IsOfLevel (suc n)) _ _ (levels_more level_classes n)
    (All-append (IsOfLevel (suc n)) (flat_map level_classes (range_with_len 0 n)) (level_classes n)
    (All-weaker (IsOfLevel n) (IsOfLevel (suc n)) (later n) (flat_map level_classes (range_with_len 0 n)) (levels_of n))
    (All-from_recursion (IsOfLevel (suc n)) (level_classes n) (
      of_level 65 n (omega arith) (omega arith),
      (
        of_level 66 n (omega arith) (omega arith),
        (of_level 67 n (omega arith) (omega arith), (of_level 85 n (omega arith) (omega arith), tt)),
      ),
    )))

pairs_append : {X : Type 0} (R : X → X → Type 0) (xs ys : List X) → AllPairs R xs → AllPairs R ys → All (λ x. All (R x) ys) xs → AllPairs R (xs ++ ys)
pairs_append R [] ys first second across = second
pairs_append {X} R (x ∷ xs) ys first second across =
    let all_across : X → Type 0 = λ z. All (R z) ys in
    AllPairs-cons R x (xs ++ ys)
    (All-append (R x) xs ys (λ k d within. first 0 (suc k) d (omega arith) (omega arith)) (All-head all_across x xs across))
    (pairs_append R xs ys (λ i j d before within. first (suc i) (suc j) d (omega arith) (omega arith)) second (All-tail all_across x xs across))

abbrev IsOther : List ℕ → List ℕ → Type 0
IsOther a b = a ≢ b

level_distinct : (n : ℕ) → n < 2 ^ 64 → AllPairs IsOther (level_classes n)
level_distinct n small =
    let other : (a b : ℕ) → a ≢ b → level_iri (a ∷ []) n ≢ level_iri (b ∷ []) n = λ a b differ. apart a b n n small small (λ same. absurd (differ same)) in
    AllPairs-cons IsOther (level_iri (65 ∷ []) n) (level_iri (66 ∷ []) n ∷ level_iri (67 ∷ []) n ∷ level_iri (85 ∷ []) n ∷ [])
    (All-from_recursion (IsOther (level_iri (65 ∷ []) n)) (level_iri (66 ∷ []) n ∷ level_iri (67 ∷ []) n ∷ level_iri (85 ∷ []) n ∷ [])
    (other 65 66 (omega arith), (other 65 67 (omega arith), (other 65 85 (omega arith), tt))))
    (AllPairs-cons IsOther (level_iri (66 ∷ []) n) (level_iri (67 ∷ []) n ∷ level_iri (85 ∷ []) n ∷ [])
    (All-from_recursion (IsOther (level_iri (66 ∷ []) n)) (level_iri (67 ∷ []) n ∷ level_iri (85 ∷ []) n ∷ []) (other 66 67 (omega arith), (other 66 85 (omega arith), tt)))
    (AllPairs-cons IsOther (level_iri (67 ∷ []) n) (level_iri (85 ∷ []) n ∷ [])
    (All-from_recursion (IsOther (level_iri (67 ∷ []) n)) (level_iri (85 ∷ []) n ∷ []) (other 67 85 (omega arith), tt))
    (λ i j d before within. absurd (omega arith))))

levels_distinct : (n : ℕ) → n < 2 ^ 64 → AllPairs IsOther (flat_map level_classes (range_with_len 0 n))
levels_distinct zero small = λ i j d before within. absurd (omega arith)
levels_distinct (suc n) small =
    let so_far = flat_map level_classes (range_with_len 0 n) in
    subst (AllPairs IsOther) (sym (levels_more level_classes n))
    (pairs_append IsOther so_far (level_classes n) (levels_distinct n (omega arith)) (level_distinct n (omega arith))
    (All-weaker (IsOfLevel n) (λ x. All (IsOther x) (level_classes n)) (λ x h. All-from_recursion (IsOther x) (level_classes n)
    (let new : (letter : ℕ) → x ≢ level_iri (letter ∷ []) n
    = λ letter same. apart h.letter letter h.level n (omega (arith, h.below)) (omega arith) (λ _ e. absurd (omega (arith, h.below))) (sym h.spelled ∙ same) in
    (new 65, (new 66, (new 67, (new 85, tt)))))) so_far (levels_of n)))

-- names that differ at a byte
differ_at : (k : ℕ) (a b : List ℕ) → get_or a k 0 ≢ get_or b k 0 → a ≢ b
differ_at k a b h same = h (ap (λ (l : List ℕ). get_or l k 0) same)

pub classes_distinct : (n : ℕ) → n < 2 ^ 64 → AllPairs (λ a b. a ≢ b) (generated_classes n)
classes_distinct n small =
    let levels = flat_map level_classes (range_with_len 0 n) in
    let d = iri (codes "D") in
    let e = iri (codes "E") in
    let reserved : (name : List ℕ) → get_or name 0 0 ≡ 104 → All (IsOther name) levels = λ name first. All-weaker (IsOfLevel n) (IsOther name)
    (λ x h. λ same. absurd (omega (arith, first, ap (λ (l : List ℕ). get_or l 0 0) (same ∙ h.spelled)))) levels (levels_of n) in
    let d_other : All (IsOther d) levels = All-weaker (IsOfLevel n) (IsOther d) (λ x h same. h.not_d (sym (ap (λ (l : List ℕ). get_or l 10 0) (same ∙ h.spelled)))) levels (levels_of n) in
    let e_other : All (IsOther e) levels = All-weaker (IsOfLevel n) (IsOther e) (λ x h same. h.not_e (sym (ap (λ (l : List ℕ). get_or l 10 0) (same ∙ h.spelled)))) levels (levels_of n) in
    AllPairs-cons IsOther thing (nothing ∷ d ∷ e ∷ levels)
    (All-cons (IsOther thing) nothing (d ∷ e ∷ levels) (differ_at 30 thing nothing (omega arith))
    (All-cons (IsOther thing) d (e ∷ levels) (differ_at 0 thing d (omega arith)) (All-cons (IsOther thing) e levels (differ_at 0 thing e (omega arith)) (reserved thing refl))))
    (AllPairs-cons IsOther nothing (d ∷ e ∷ levels)
    (All-cons (IsOther nothing) d (e ∷ levels) (differ_at 0 nothing d (omega arith)) (All-cons (IsOther nothing) e levels (differ_at 0 nothing e (omega arith)) (reserved nothing refl)))
    (AllPairs-cons IsOther d (e ∷ levels) (All-cons (IsOther d) e levels (differ_at 10 d e (omega arith)) d_other)
    (AllPairs-cons IsOther e levels e_other (levels_distinct n small))))

pub roles_distinct : AllPairs (λ a b. a ≢ b) generated_roles
roles_distinct =
    let r = iri (codes "R") in
    let s = iri (codes "S") in
    AllPairs-cons IsOther r (s ∷ []) (All-cons (IsOther r) s [] (differ_at 10 r s (omega arith)) (All-nil (IsOther r))) (λ i j d before within. absurd (omega arith))
