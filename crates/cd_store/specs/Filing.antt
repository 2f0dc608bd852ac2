-- Numbers of clauses, filed by what the clauses have.
use Rattle.std.specs.Prelude.{◌≡◌, ℕ, ◌<◌, ◌⊎◌, ◌+◌, ◌*◌, ◌%◌, true, cond, nat_eq, List, [], ◌∷◌, length, map, slice_index_or}
use Rattle.cd_base.specs.Lists.{OneOf}
use Rattle.cd_base.specs.Keys.{folded}
use Rattle.cd_clause.specs.Covering.{is_as_strong}
use Rattle.cd_clause.specs.declared.elem.Elem.{Elem}
use Rattle.cd_clause.specs.declared.elem.Elem.TheVariants.{Plain, Exist}

-- the number under which an element is filed, which existentials may share: that of an atom, or one above those, of the role and the key
abbrev pub filed_under : Elem → ℕ
filed_under (Plain a) = a
filed_under (Exist r k) = 4294967296 + r * 31 + folded 0 k % 4294967295

-- the first list of the number, and none where it has no list
abbrev pub listed : List (ℕ × List ℕ) → ℕ → List ℕ
listed [] q = []
listed (p ∷ ps) q = cond (nat_eq q p.0) p.1 (listed ps q)

-- the list for clauses that end in the element, and that for clauses in which another follows it
abbrev pub ends_in : Elem → ℕ
ends_in e = filed_under e * 4

abbrev pub goes_on_from : Elem → ℕ
goes_on_from e = filed_under e * 4 + 1

-- the number of a role and a literal, by its code, above those of atoms; roles that are far apart may share it
abbrev pub paired : ℕ → ℕ → ℕ
paired r l = (1 + r % 134217728) * 8589934592 + l

-- the list for clauses that end in an existential of the role to a key with the literal
abbrev pub with_literal : ℕ → ℕ → ℕ
with_literal r l = paired r l * 4 + 2

-- the list for clauses with an existential of the role to a key of whose literals this one was chosen
abbrev pub chosen_by : ℕ → ℕ → ℕ
chosen_by r l = paired r l * 4 + 3

-- the list of all clauses with an existential
abbrev pub existentials : ℕ
existentials = 9223372036854775808

-- the list of all clauses with an existential to the empty key, of which no literal can be chosen
abbrev pub empty_keys : ℕ
empty_keys = 9223372036854775809

-- the number is in the list of one of these literals, which was chosen
abbrev pub HasChosen : List (ℕ × List ℕ) → ℕ → List ℕ → ℕ → Type 0
HasChosen f r ls n = (l : ℕ) × OneOf l ls × OneOf n (listed f (chosen_by r l))

-- the number is in the list of one of the key's literals, or in that of the empty key
abbrev pub IsUnderKey : List (ℕ × List ℕ) → ℕ → List ℕ → ℕ → Type 0
IsUnderKey f r k n = OneOf n (listed f empty_keys) ⊎ HasChosen f r k n

-- the clause's number is in this list of one of its elements; where that is an existential, also among all of them and under its key
abbrev pub IsUnder : List (ℕ × List ℕ) → ℕ → ℕ → Elem → Type 0
IsUnder f n q (Plain a) = OneOf n (listed f q)
IsUnder f n q (Exist r k) =
    OneOf n (listed f q) × OneOf n (listed f existentials) × IsUnderKey f r k n

-- the clause's number is found by each element that its last one is at least as strong as: under the atom, or under each literal
abbrev pub IsUnderLast : List (ℕ × List ℕ) → ℕ → Elem → Type 0
IsUnderLast f n (Plain a) = OneOf n (listed f (ends_in (Plain a)))
IsUnderLast f n (Exist r k) = ((l : ℕ) → OneOf l k → OneOf n (listed f (with_literal r l)))
    × OneOf n (listed f existentials)

-- the clause's number is filed under each of its elements, and under the last one apart
abbrev pub IsFiled : List (ℕ × List ℕ) → ℕ → List Elem → Type 0
IsFiled f n [] = Unit {0}
IsFiled f n (e ∷ []) = IsUnder f n (ends_in e) e × IsUnderLast f n e
IsFiled f n (e ∷ (d ∷ es)) = IsUnder f n (goes_on_from e) e × IsFiled f n (d ∷ es)

-- the number is filed under one that the element is at least as strong as
abbrev pub HasWeakerUnder : List (ℕ × List ℕ) → Elem → ℕ → Type 0
HasWeakerUnder f e n = (w : Elem) × (is_as_strong e w ≡ true)
    × (IsUnder f n (ends_in w) w ⊎ IsUnder f n (goes_on_from w) w)

-- the keys of the lists, in the order in which they came
abbrev pub keys_of : List (ℕ × List ℕ) → List ℕ
keys_of f = map (λ p. p.0) f

-- one of the two lists of the atom's number has something
abbrev pub HasList : List (ℕ × List ℕ) → ℕ → Type 0
HasList f a = (n : ℕ) × (OneOf n (listed f (a * 4)) ⊎ OneOf n (listed f (a * 4 + 1)))

-- each stored clause is filed
abbrev pub AreFiled : List (ℕ × List ℕ) → List (List Elem) → Type 0
AreFiled f clauses = (n : ℕ) → n < length clauses → IsFiled f n (slice_index_or clauses n [])

-- nothing that was filed is lost
abbrev pub KeepsFiled : List (ℕ × List ℕ) → List (ℕ × List ℕ) → Type 0
KeepsFiled old new = (q n : ℕ) → OneOf n (listed old q) → OneOf n (listed new q)
