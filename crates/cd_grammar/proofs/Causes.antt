-- The cause that the machine finds is the one that the grammar gives.
use Rattle.std.proofs.Common.{◌≡◌, ◌≢◌, ◌⊎◌, ℕ, suc, Bool, true, false, not, List, [], ◌∷◌, ◌++◌, refl, sym, ap, ◌∙◌, subst, inl, inr}
use Rattle.std.specs.Prelude.{Option, Some, None, is_some}
use Rattle.std.specs.Str.{bytes_eq}
use Rattle.std.proofs.lemmas.Slice.Eq.{bytes_eq-Decides}
use Rattle.cd_names.specs.Prefixes.{meaning}
use Rattle.cd_syntax.specs.declared.item.Item.{Item}
use Rattle.cd_syntax.specs.declared.item.Item.TheVariants.{Word, Short, FullIri}
use Rattle.cd_syntax.specs.declared.known.Known.{Known}
use Rattle.cd_grammar.specs.declared.symbol.Symbol.{Symbol}
use Rattle.cd_grammar.specs.declared.symbol.Symbol.TheVariants.{PrefixIri}
use Rattle.cd_syntax.specs.declared.words.Keyword.{Keyword}
use Rattle.cd_grammar.specs.Causes.{number_of, refused_role, refused, is_unknown, first_of_causes, cause_of}
use Rattle.cd_syntax.proofs.ItemFault.{IsBehind, IsNoRole, IsRefusedConstruct, IsUnknown, IsClash, IsDeep, IsCause}
use Rattle.cd_syntax.specs.Grammar.{nesting, top_role, bottom_role, with_prefix}
use Rattle.cd_syntax.proofs.ItemGrammar.{Wanted, RoleOf, Means, Leads}
use Rattle.cd_syntax.specs.Named.{iri_of}
use Rattle.cd_grammar.specs.Machine.{State, taken_if, bound, step, after, start}
use Rattle.cd_grammar.proofs.Begins.{begins_with_role, begins_with_prefix, role_at, prefix_at, stack_asks, known_stays, leads_begins}
use Rattle.cd_grammar.proofs.Closes.{IsClosable, closes}
use Rattle.cd_grammar.proofs.Fills.{Fills}
use Rattle.cd_syntax.proofs.Items.{iri_of-means, means}
use Rattle.cd_grammar.proofs.Raises.{raised, over_at, start_raises, stuck_at}
use Rattle.cd_grammar.proofs.Roles.{wants_role-stack}
use Rattle.cd_grammar.proofs.Runs.{after-append, closable_after, is_front, front_reaches, is_behind, behind_reaches}

-- ---- the two roles that are none

-- the IRI is one of the two, of this number
abbrev IsOfTwo : List ℕ → ℕ → Type 0
IsOfTwo i number = ((i ≡ top_role) × (number ≡ 45)) ⊎ ((i ≡ bottom_role) × (number ≡ 46))

-- the two tests tell which one
of_two : (i : List ℕ) (number : ℕ) (top bottom : Bool) → bytes_eq i top_role ≡ top → bytes_eq i bottom_role ≡ bottom → number_of top bottom ≡ Some number
    → IsOfTwo i number
of_two i number true bottom e f h = inl ((bytes_eq-Decides i top_role).0 e, cc)
of_two i number false true e f h = inr ((bytes_eq-Decides i bottom_role).0 f, cc)
of_two i number false false e f h = absurd cc

-- the item stands for one of the two
abbrev MeansTwo : Known → Item → ℕ → Type 0
MeansTwo known item number = (Means known item top_role × (number ≡ 45)) ⊎ (Means known item bottom_role × (number ≡ 46))

-- an IRI that is refused as a role is one of the two
refused_role-of_two : (number : ℕ) (iri : Option (List ℕ)) → refused_role iri ≡ Some number → (i : List ℕ) × (iri ≡ Some i) × IsOfTwo i number
refused_role-of_two number None h = absurd cc
refused_role-of_two number (Some i) h = (i, refl, of_two i number (bytes_eq i top_role) (bytes_eq i bottom_role) refl refl h)

-- an item whose IRI is refused as a role stands for one of the two
means_two : (known : Known) (item : Item) (number : ℕ) → refused_role (iri_of known item) ≡ Some number → MeansTwo known item number
means_two known item number h =
    let (i, is, two) = refused_role-of_two number (iri_of known item) h in
    let m : Means known item i = means known item i is in
    elim two [
      | inl (e, n) ↦ inl (subst (λ (x : List ℕ). Means known item x) e m, n)
      | inr (e, n) ↦ inr (subst (λ (x : List ℕ). Means known item x) e m, n)
    ]

-- an item that stands for one of the two has an IRI that is refused as a role
two_refused : (known : Known) (item : Item) (number : ℕ) → MeansTwo known item number → refused_role (iri_of known item) ≡ Some number
two_refused known item number (inl (m, n)) = ap refused_role (iri_of-means known item top_role m) ∙ ap (λ (k : ℕ). Some k) (sym n)
two_refused known item number (inr (m, n)) = ap refused_role (iri_of-means known item bottom_role m) ∙ ap (λ (k : ℕ). Some k) (sym n)

-- a word stands for no role
two_wanted : (known : Known) (item : Item) (number : ℕ) → MeansTwo known item number → refused known item true ≡ Some number
two_wanted known (Word (Keyword.Refused k)) number (inl (m, n)) = absurd m
two_wanted known (Word (Keyword.Refused k)) number (inr (m, n)) = absurd m
two_wanted known item number two = two_refused known item number two

-- ---- prefixes

-- a test says that there is none
none_if : (o : Option (List ℕ)) → not (is_some o) ≡ true → o ≡ None
none_if None h = refl
none_if (Some i) h = absurd cc

-- the stack wants the IRI of a prefix
prefix_stack : (stack : List Symbol) (item : Item) → prefix_at stack item ≡ true
    → (p : List ℕ) × (i : List ℕ) × (rest : List Symbol) × (stack ≡ PrefixIri p ∷ rest) × (item ≡ FullIri i)
prefix_stack (PrefixIri p ∷ rest) (FullIri i) h = (p, i, rest, refl, refl)
prefix_stack [] item h = absurd cc
prefix_stack (symbol ∷ rest) item h = absurd cc

-- such a stack wants it first
prefix_fills : (p : List ℕ) (rest : List Symbol) (wanted : List Wanted) → Fills [] (PrefixIri p ∷ rest) wanted
    → (behind : List Wanted) × (wanted ≡ Wanted.PrefixIri p ∷ behind)
prefix_fills p rest wanted (first, handed, behind, (is, none), whole, fills) = (behind, whole ∙ ap (λ (l : List Wanted). l ++ behind) is)

-- an IRI that a prefix can't have is another one than it has
other_iri : (known : Known) (p i : List ℕ) (rest : List Symbol) (o : Option (List ℕ)) → bound known p i rest o ≡ None → (j : List ℕ) × (o ≡ Some j) × (j ≢ i)
other_iri known p i rest None stuck = absurd cc
other_iri known p i rest (Some j) stuck = (
  j,
  refl,
  λ same. let is : bytes_eq j i ≡ true = (bytes_eq-Decides j i).1 same in
      let taken : bound known p i rest (Some j) ≡ Some (with_prefix known p i, rest) = ap (λ (b : Bool). taken_if b (with_prefix known p i, rest)) is in cc,
)

-- a test says that there is a state
state_of : (o : Option State) → is_some o ≡ true → (state : State) × (o ≡ Some state)
state_of None h = absurd cc
state_of (Some state) h = (state, refl)

-- ---- behind a front that the machine took

module _ (front : List Item) (known : Known) (stack : List Symbol) (run : after nesting start front ≡ Some (known, stack)) where
  -- what may be wanted behind the front is wanted by the stack
  at_stack : (known' : Known) (wanted' : List Wanted) → IsBehind front known' wanted'
      → (known' ≡ known) × (begins_with_role wanted' ≡ true → role_at stack ≡ true) × (begins_with_prefix wanted' ≡ true → (i : List ℕ) → prefix_at stack (FullIri i) ≡ true)
  at_stack known' wanted' behind =
      let (wanted, fills, leads) = behind_reaches front (known, stack) run known' wanted' behind in
      let begins = leads_begins nesting known wanted known' wanted' leads in
      let asks = stack_asks stack wanted fills in
      (known_stays nesting known wanted known' wanted' leads, λ h. asks.0 (begins.0 h), λ h i. asks.1 (begins.1 h) i)

  -- the stack can be completed
  closable : IsClosable 0 stack
  closable = closable_after nesting front (known, stack) run

  -- ---- refused constructs

  -- an item that is a refused construct is found to be one
  pub refused_only : (item : Item) (number : ℕ) → IsRefusedConstruct front item number → refused known item (role_at stack) ≡ Some number
  refused_only item number (inl is) = ap (λ (t : Item). refused known t (role_at stack)) is
  refused_only item number (inr (known', role, wanted, behind, two)) =
      let (same, roles, prefixes) = at_stack known' (RoleOf role ∷ wanted) behind in
      ap (refused known item) (roles refl) ∙ two_wanted known item number (subst (λ (k : Known). MeansTwo k item number) same two)

  -- where the stack wants a role, one of the two is none
  no_role : (item : Item) (number : ℕ) → role_at stack ≡ true → refused_role (iri_of known item) ≡ Some number → IsNoRole front item number
  no_role item number wants h =
      let (wanted, fills, rest, leads) = wants_role-stack known stack wants closable in
      (known, 0, rest, is_behind front (known, stack) run wanted fills known (RoleOf 0 ∷ rest) leads, means_two known item number h)

  -- an item that is found to be a refused construct is one
  refused_found : (item : Item) (number : ℕ) (wants : Bool) → role_at stack ≡ wants → refused known item wants ≡ Some number → IsRefusedConstruct front item number
  refused_found (Word (Keyword.Refused k)) number wants w h = inl (ap (λ (n : ℕ). Word (Keyword.Refused n)) cc)
  refused_found item number true w h = inr (no_role item number w h)
  refused_found item number false w h = absurd cc

  -- ---- prefixes

  -- a short name whose prefix isn't declared is found
  unknown_only : (item : Item) → IsUnknown front item → is_unknown known item ≡ true
  unknown_only item (p, l, is, known', wanted, behind, none) =
      let (same, roles, prefixes) = at_stack known' wanted behind in
      ap (is_unknown known) is ∙ ap (λ (k : Known). not (is_some (meaning k.prefixes p))) (sym same) ∙ ap (λ (o : Option (List ℕ)). not (is_some o)) none

  -- a short name that is found has no declared prefix
  unknown_found : (item : Item) → is_unknown known item ≡ true → IsUnknown front item
  unknown_found (Short p l) h =
      let (wanted, items, known', fills, leads) = closes nesting stack [] closable known in
      (p, l, refl, known, wanted, is_behind front (known, stack) run wanted fills known wanted Leads.here, none_if (meaning known.prefixes p) h)
  unknown_found item h = absurd cc

  -- an IRI of a prefix that has another one is found
  clash_only : (item : Item) → IsClash front item → prefix_at stack item ≡ true
  clash_only item (p, i, is, known', wanted, behind, other) =
      let (same, roles, prefixes) = at_stack known' (Wanted.PrefixIri p ∷ wanted) behind in
      ap (prefix_at stack) is ∙ prefixes refl i

  -- an IRI that is found to be of a prefix, and isn't taken, is another one
  clash_found : (item : Item) → step nesting (Some (known, stack)) item ≡ None → prefix_at stack item ≡ true → IsClash front item
  clash_found item stuck h =
      let (p, i, rest, at, is) = prefix_stack stack item h in
      let (wanted, items, known', fills, leads) = closes nesting stack [] closable known in
      let (behind, whole) = prefix_fills p rest wanted (subst (λ (l : List Symbol). Fills [] l wanted) at fills) in
      let none : bound known p i rest (meaning known.prefixes p) ≡ None =
      sym (ap (λ (l : List Symbol). step nesting (Some (known, l)) item) at ∙ ap (step nesting (Some (known, PrefixIri p ∷ rest))) is) ∙ stuck in (
        p,
        i,
        is,
        known,
        behind,
        is_behind front (known, stack) run wanted fills known (Wanted.PrefixIri p ∷ behind)
            (subst (λ (w : List Wanted). Leads nesting known wanted [] known w) whole Leads.here),
        other_iri known p i rest (meaning known.prefixes p) none,
      )

  -- ---- the limit

  -- the run of one more inside each other
  one_more : (item : Item) → after (suc nesting) start (front ++ item ∷ []) ≡ step (suc nesting) (Some (known, raised stack)) item
  one_more item = after-append (suc nesting) start front (item ∷ []) ∙ ap (λ (o : Option State). step (suc nesting) o item) (start_raises 255 front (known, stack) run)

  -- where one more inside each other is enough, only the limit was in the way
  deep_only : (item : Item) → step nesting (Some (known, stack)) item ≡ None → IsDeep front item → over_at stack item ≡ true
  deep_only item stuck deep =
      let (end, above) = front_reaches (suc nesting) (front ++ item ∷ []) deep in
      sym (stuck_at 255 known stack item stuck) ∙ ap is_some (sym (one_more item) ∙ above)

  -- where only the limit was in the way, one more inside each other is enough
  deep_found : (item : Item) → step nesting (Some (known, stack)) item ≡ None → over_at stack item ≡ true → IsDeep front item
  deep_found item stuck over =
      let (end, above) = state_of (step (suc nesting) (Some (known, raised stack)) item) (stuck_at 255 known stack item stuck ∙ over) in
      is_front (suc nesting) (front ++ item ∷ []) end (one_more item ∙ above)

  -- the first cause that is found is the first that fits
  causes_by : (item : Item) → step nesting (Some (known, stack)) item ≡ None → (number : Option ℕ) (unknown clash over : Bool)
      → refused known item (role_at stack) ≡ number → is_unknown known item ≡ unknown → prefix_at stack item ≡ clash → over_at stack item ≡ over
      → IsCause front item (first_of_causes number unknown clash over)
  causes_by item stuck (Some number) unknown clash over r u c o = refused_found item number (role_at stack) refl r
  causes_by item stuck None true clash over r u c o =
      (λ number is. let h = refused_only item number is in cc, inl (unknown_found item u))
  causes_by item stuck None false true over r u c o =
      (λ number is. let h = refused_only item number is in cc, inr (clash_found item stuck c))
  causes_by item stuck None false false true r u c o = (
    λ number is. let h = refused_only item number is in cc,
    λ is. let h = unknown_only item is in cc,
    λ is. let h = clash_only item is in cc,
    deep_found item stuck o,
  )
  causes_by item stuck None false false false r u c o = (
    λ number is. let h = refused_only item number is in cc,
    λ is. let h = unknown_only item is in cc,
    λ is. let h = clash_only item is in cc,
    λ is. let h = deep_only item stuck is in cc,
  )

-- the machine's cause, at a stack that may be empty
cause_at : (known : Known) (stack : List Symbol) (item : Item)
    → first_of_causes (refused known item (role_at stack)) (is_unknown known item) (prefix_at stack item) (over_at stack item) ≡ cause_of known stack item
cause_at known [] item = refl
cause_at known (symbol ∷ stack) item = refl

-- where the machine is stuck behind a front, its cause is that of the item
pub causes : (front : List Item) (known : Known) (stack : List Symbol) → after nesting start front ≡ Some (known, stack)
    → (item : Item) → step nesting (Some (known, stack)) item ≡ None → IsCause front item (cause_of known stack item)
causes front known stack run item stuck =
    subst (IsCause front item) (cause_at known stack item)
    (causes_by front known stack run item stuck (refused known item (role_at stack)) (is_unknown known item) (prefix_at stack item) (over_at stack item) refl refl refl refl)
