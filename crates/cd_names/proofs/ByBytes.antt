-- Names and prefixes as their hash tables hold them, read by their bytes.
use Rattle.std.proofs.Common.{◌≡◌, ℕ, ◌+◌, Bool, true, false, not, cond, ◌||◌, List, [], ◌∷◌, ◌++◌, map, Option, None, Some, refl, sym, ap, ◌∙◌, arith}
use Rattle.std.specs.Prelude.{if◌then◌else◌}
use Rattle.std.specs.Cmp.Lexicographic.{nat_list_eq_equiv}
use Rattle.std.specs.List.{list_any, position, position_or_len}
use Rattle.std.specs.Map.{lookup}
use Rattle.std.specs.Option.{option_map}
use Rattle.std.specs.Str.{bytes_eq}
use Rattle.std.proofs.lemmas.Grind.{common_steps}
use Rattle.std.proofs.lemmas.List.{map-append}
use Rattle.indexmap.proofs.CallerLemmas.{insert_entry-new}
use Rattle.indexmap.specs.IndexMap.{IndexMap, insert_entry}
use Rattle.cd_names.specs.Names.{add_name, number}
use Rattle.cd_names.specs.Prefixes.{meaning}

-- ---- a list of values that have these names

module _ {X : Type 0} (f : X → List ℕ) (i : List ℕ) where
  any_name : (xs : List X) → list_any (λ x. bytes_eq i (f x)) xs ≡ list_any (bytes_eq i) (map f xs)
  any_name [] = refl
  any_name (x ∷ xs) = ap (λ (t : Bool). bytes_eq i (f x) || t) (any_name xs)

  pub number_of : (xs : List X) → position_or_len (λ x. bytes_eq i (f x)) xs ≡ number (map f xs) i
  number_of [] = refl
  number_of (x ∷ xs) = ap (λ (n : ℕ). cond (not (bytes_eq i (f x))) (1 + n) 0) (number_of xs)

  -- a value of that name goes to the end if there is none
  pub added_to : (xs : List X) (x : X) → f x ≡ i → map f (if list_any (λ y. bytes_eq i (f y)) xs then xs else xs ++ x ∷ []) ≡ add_name (map f xs) i
  added_to xs x named =
      let longer = map f xs ++ i ∷ [] in
      let P : Bool → Type 0 = λ t. map f (cond t xs (xs ++ x ∷ [])) ≡ cond t (map f xs) longer in
      (elim (list_any (λ y. bytes_eq i (f y)) xs) as P [
        | true ↦ refl
        | false ↦ map-append f xs (x ∷ []) ∙ ap (λ (j : List ℕ). map f xs ++ j ∷ []) named
      ]) ∙ ap (λ (t : Bool). cond t (map f xs) longer) (any_name xs)

module _ {X : Type 0} (f : X → List ℕ) (i : List ℕ) where
  -- a name that is found is there, at its number
  pub known_number : (xs : List X) (k : ℕ) → position (λ x. bytes_eq i (f x)) xs ≡ Some k → number (map f xs) i ≡ k
  known_number xs k e =
      let at : position_or_len (λ x. bytes_eq i (f x)) xs ≡ k = grind (arith, common_steps) in
      sym (number_of f i xs) ∙ at

  pub known_stays : (xs : List X) → list_any (λ x. bytes_eq i (f x)) xs ≡ true → add_name (map f xs) i ≡ map f xs
  known_stays xs h = ap (λ (t : Bool). cond t (map f xs) (map f xs ++ i ∷ [])) (sym (any_name f i xs) ∙ h)

-- ---- a map's entries, seen as prefixes and IRIs

nothing_there : {X Y : Type 0} (h : X → Y) (found : Option X) → option_map h found ≡ None → found ≡ None
nothing_there h None e = refl
nothing_there h (Some x) e = cc

module _ {K V : Type 0} (f : K → List ℕ) (g : V → List ℕ) where
  abbrev pub read : K × V → List ℕ × List ℕ
  read entry = (f entry.0, g entry.1)

  pub meaning_of : (entries : List (K × V)) (p : List ℕ) → option_map g (lookup (λ k. bytes_eq p (f k)) entries) ≡ meaning (map read entries) p
  meaning_of [] p = refl
  meaning_of (e ∷ more) p =
      let old = lookup (λ k. bytes_eq p (f k)) more in
      let rest = meaning (map read more) p in
      let P : Bool → Type 0 = λ t. option_map g (cond t (Some e.1) old) ≡ cond t (Some (g e.1)) rest in
      (elim (bytes_eq p (f e.0)) as P [ true ↦ refl | false ↦ meaning_of more p ])
      ∙ ap (λ (t : Bool). cond t (Some (g e.1)) rest) (nat_list_eq_equiv.symm p (f e.0))

  -- an entry of a new prefix goes to the end
  pub pushed_to : {S : Type 0} (m : IndexMap K V S) (k : K) (v : V) → meaning (map read m.entries) (f k) ≡ None
      → map read (insert_entry (λ x y. bytes_eq (f x) (f y)) m.entries k v) ≡ map read m.entries ++ (f k, g v) ∷ []
  pushed_to m k v new =
      ap (map read) (insert_entry-new (λ x y. bytes_eq (f x) (f y)) m k v (nothing_there g _ (meaning_of m.entries (f k) ∙ new)))
      ∙ map-append read m.entries ((k, v) ∷ [])
