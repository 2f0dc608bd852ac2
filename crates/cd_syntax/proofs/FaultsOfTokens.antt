-- Fronts of documents, and faults behind them, are the same among tokens as among their items.
use Rattle.std.proofs.Common.{◌≡◌, ◌⊎◌, ℕ, suc, List, [], ◌∷◌, ◌++◌, map, refl, sym, ap, subst, ◌∙◌, inl, inr, append-nil, append_assoc}
use Rattle.std.proofs.lemmas.List.{map-append}
use Rattle.cd_lex.specs.declared.token.Kind.{Kind}
use Rattle.cd_lex.specs.declared.token.Kind.TheVariants.{Short, FullIri}
use Rattle.cd_syntax.specs.declared.cause.Cause.{Cause}
use Rattle.cd_syntax.specs.declared.cause.Cause.TheVariants.{Construct, Prefix, Depth, Syntax}
use Rattle.cd_syntax.specs.declared.item.Item.{Item}
use Rattle.cd_syntax.specs.declared.known.Known.{Known}
use Rattle.cd_syntax.specs.declared.words.Keyword.{Keyword}
use Rattle.cd_syntax.specs.Fault.{Next, Token, End, Bad, IsFront, GoesOn, IsBehind, IsNoRole, IsConstruct, IsUnknown, IsClash, IsCause, IsFault}
use Rattle.cd_syntax.specs.Grammar.{Wanted, PrefixIri, RoleOf, Text, Means, Leads, IsWhole, begun, nesting, top_role, bottom_role}
use Rattle.cd_syntax.proofs.ItemFault.{IsFront as IsItemFront, IsBehind as IsItemBehind, IsNoRole as IsItemNoRole, IsRefusedConstruct as IsItemRefused, IsUnknown as IsItemUnknown, IsClash as IsItemClash, IsCause as IsItemCause}
use Rattle.cd_syntax.proofs.ItemGrammar.{Wanted as ItemWanted, Means as ItemMeans, Leads as ItemLeads, IsWhole as IsItemWhole}
use Rattle.cd_syntax.specs.Items.{item_of}
use Rattle.cd_syntax.proofs.ItemsOfTokens.{item_wanted, Agree, means_to}
use Rattle.cd_syntax.proofs.Keywords.{refused_key, says_key}
use Rattle.cd_syntax.proofs.TokensOfItems.{exact_kind, word_kind, means_back, no_end, no_bad, forward, backward, completed}

-- ---- derivations in parts

-- what leads over items in two parts leads over the first, and then over the second
split : {most : ℕ} {known known' : Known} {items items' : List ItemWanted} {line : List Item} (front back : List Item) → line ≡ front ++ back
    → ItemLeads most known items line known' items'
    → (mid : Known) × (between : List ItemWanted) × ItemLeads most known items front mid between × ItemLeads most mid between back known' items'
split {most} {known} {known'} {items} {items'} [] back e r =
    (known, items, ItemLeads.here, subst (λ (l : List Item). ItemLeads most known items l known' items') e r)
split (x ∷ front) back e ItemLeads.here = absurd cc
split {most} (x ∷ front) back e (ItemLeads.one {known} {w = w} {wanted = rest} {item = item} {items = line} s r) =
    let first : item ≡ x = cc in
    let behind : line ≡ front ++ back = cc in
    let (mid, between, before, after) = split front back behind r in
    (mid, between, subst (λ (i : Item). ItemLeads most known (w ∷ rest) (i ∷ front) mid between) first (ItemLeads.one s before), after)
split (x ∷ front) back e (ItemLeads.line parts l r) =
    let (mid, between, before, after) = split (x ∷ front) back e r in (mid, between, ItemLeads.line parts l before, after)

items_then : {most : ℕ} {a b c : Known} {first between last : List ItemWanted} {front back : List Item} → ItemLeads most a first front b between
    → ItemLeads most b between back c last → ItemLeads most a first (front ++ back) c last
items_then ItemLeads.here next = next
items_then (ItemLeads.one s r) next = ItemLeads.one s (items_then r next)
items_then (ItemLeads.line parts l r) next = ItemLeads.line parts l (items_then r next)

tokens_then : {most : ℕ} {a b c : Known} {first between last : List Wanted} {front back : List Kind} → Leads most a first front b between
    → Leads most b between back c last → Leads most a first (front ++ back) c last
tokens_then Leads.here next = next
tokens_then (Leads.one s r) next = Leads.one s (tokens_then r next)
tokens_then (Leads.by_line parts l r) next = Leads.by_line parts l (tokens_then r next)

-- ---- whole documents

start_agrees : Agree (Text ∷ []) (ItemWanted.Text ∷ [])
start_agrees = inl (tt, refl, refl)

-- the end of the text is taken behind all that is wanted of tokens
whole_items : (most : ℕ) (kinds : List Kind) (known : Known) → Leads most begun (Text ∷ []) kinds known []
    → ItemLeads most begun (ItemWanted.Text ∷ []) (map item_of kinds ++ Item.End ∷ []) known []
whole_items most kinds known r =
    let (items, e, leads) = forward most (ItemWanted.Text ∷ []) start_agrees r in
    items_then leads (subst (λ (x : List ItemWanted). ItemLeads most known x (Item.End ∷ []) known []) (sym e) (ItemLeads.one (refl, refl) ItemLeads.here))

-- items of tokens, and items behind them that complete a document
completion : (most : ℕ) (front : List Kind) (more : List Item) (known : Known) → ItemLeads most begun (ItemWanted.Text ∷ []) (map item_of front ++ more) known []
    → (kinds : List Kind) × (more ≡ map item_of kinds ++ Item.End ∷ []) × Leads most begun (Text ∷ []) (front ++ kinds) known []
completion most front more known leads =
    let (mid, between, before, after) = split (map item_of front) more refl leads in
    let (wanted, agree, r) = backward most (Text ∷ []) front start_agrees refl before in
    let (kinds, are, s) = completed most wanted agree refl after in
    (kinds, are, tokens_then r s)

only_end : (kinds : List Kind) (more : List Item) → Item.End ∷ more ≡ map item_of kinds ++ Item.End ∷ [] → kinds ≡ []
only_end [] more e = refl
only_end (kind ∷ kinds) more e = let is : Item.End ≡ item_of kind = cc in absurd (no_end kind is)

never_bad : (kinds : List Kind) (more : List Item) → Item.Bad ∷ more ≡ map item_of kinds ++ Item.End ∷ [] → ⊥
never_bad [] more e = cc
never_bad (kind ∷ kinds) more e = let is : Item.Bad ≡ item_of kind = cc in no_bad kind is

-- what is complete with the end of the text
ended : (most : ℕ) (front : List Kind) (more : List Item) (known : Known) → ItemLeads most begun (ItemWanted.Text ∷ []) (map item_of front ++ Item.End ∷ more) known []
    → Leads most begun (Text ∷ []) front known []
ended most front more known leads =
    let (kinds, are, r) = completion most front (Item.End ∷ more) known leads in
    subst (λ (ks : List Kind). Leads most begun (Text ∷ []) ks known []) (ap (λ (ks : List Kind). front ++ ks) (only_end kinds more are) ∙ append-nil front) r

-- tokens are those of a document where their items and the end are
pub whole_to : (kinds : List Kind) (known : Known) → IsWhole kinds known → IsItemWhole (map item_of kinds ++ Item.End ∷ []) known
whole_to kinds known r = whole_items nesting kinds known r

pub whole_back : (kinds : List Kind) (known : Known) → IsItemWhole (map item_of kinds ++ Item.End ∷ []) known → IsWhole kinds known
whole_back kinds known r = ended nesting kinds [] known r

-- ---- fronts

pub front_to : (most : ℕ) (front : List Kind) → IsFront most front → IsItemFront most (map item_of front)
front_to most front (more, known, leads) =
    let e = ap (λ (l : List Item). l ++ Item.End ∷ []) (map-append item_of front more) ∙ append_assoc (map item_of front) (map item_of more) (Item.End ∷ []) in
    (map item_of more ++ Item.End ∷ [], known, subst (λ (l : List Item). ItemLeads most begun (ItemWanted.Text ∷ []) l known []) e (whole_items most (front ++ more) known leads))

pub front_back : (most : ℕ) (front : List Kind) → IsItemFront most (map item_of front) → IsFront most front
front_back most front (more, known, leads) = let (kinds, are, r) = completion most front more known leads in (kinds, known, r)

-- the item of what stands behind a front
abbrev pub next_item : Next → Item
next_item (Token kind) = item_of kind
next_item End = Item.End
next_item Bad = Item.Bad

pub goes_to : (most : ℕ) (front : List Kind) (next : Next) → GoesOn most front next → IsItemFront most (map item_of front ++ next_item next ∷ [])
goes_to most front (Token kind) is = subst (IsItemFront most) (map-append item_of front (kind ∷ [])) (front_to most (front ++ kind ∷ []) is)
goes_to most front End (known, leads) =
    let whole = whole_items most front known leads in
    ([], known, subst (λ (l : List Item). ItemLeads most begun (ItemWanted.Text ∷ []) l known []) (sym (append-nil (map item_of front ++ Item.End ∷ []))) whole)
goes_to most front Bad none = absurd none

behind_next : (most : ℕ) (front more : List Item) (item : Item) (known : Known) → ItemLeads most begun (ItemWanted.Text ∷ []) ((front ++ item ∷ []) ++ more) known []
    → ItemLeads most begun (ItemWanted.Text ∷ []) (front ++ item ∷ more) known []
behind_next most front more item known leads = subst (λ (l : List Item). ItemLeads most begun (ItemWanted.Text ∷ []) l known []) (append_assoc front (item ∷ []) more) leads

pub goes_back : (most : ℕ) (front : List Kind) (next : Next) → IsItemFront most (map item_of front ++ next_item next ∷ []) → GoesOn most front next
goes_back most front (Token kind) is = front_back most (front ++ kind ∷ []) (subst (IsItemFront most) (sym (map-append item_of front (kind ∷ []))) is)
goes_back most front End (more, known, leads) = (known, ended most front more known (behind_next most (map item_of front) more Item.End known leads))
goes_back most front Bad (more, known, leads) =
    let (kinds, are, r) = completion most front (Item.Bad ∷ more) known (behind_next most (map item_of front) more Item.Bad known leads) in
    never_bad kinds more are

-- ---- what is wanted behind a front

behind_to : (front : List Kind) (known : Known) (wanted : List Wanted) → IsBehind front known wanted
    → (items : List ItemWanted) × Agree wanted items × IsItemBehind (map item_of front) known items
behind_to front known wanted leads = forward nesting (ItemWanted.Text ∷ []) start_agrees leads

behind_back : (front : List Kind) (known : Known) (items : List ItemWanted) → IsItemBehind (map item_of front) known items
    → (wanted : List Wanted) × Agree wanted items × IsBehind front known wanted
behind_back front known items leads = backward nesting (Text ∷ []) front start_agrees refl leads

role_is : (w : Wanted) (role : ℕ) → ItemWanted.RoleOf role ≡ item_wanted w → w ≡ RoleOf role
role_is (RoleOf r) role e = cc
role_is w role e = absurd cc

prefix_is : (w : Wanted) (p : List ℕ) → ItemWanted.PrefixIri p ≡ item_wanted w → w ≡ PrefixIri p
prefix_is (PrefixIri q) p e = cc
prefix_is w p e = absurd cc

-- what is wanted first of tokens, by what is wanted first of items
first_wanted : (wanted : List Wanted) (v : ItemWanted) (items : List ItemWanted) → Agree wanted (v ∷ items)
    → (v ≡ ItemWanted.Exact Item.End) ⊎ ((w : Wanted) × (rest : List Wanted) × (wanted ≡ w ∷ rest) × (v ≡ item_wanted w))
first_wanted [] v items agree = let is : v ≡ ItemWanted.Exact Item.End = cc in inl is
first_wanted (w ∷ rest) v items (inl (last, none, is)) = let same : v ≡ item_wanted w = cc in inr (w, rest, refl, same)
first_wanted (w ∷ rest) v items (inr (fit, more, is, agree)) = let same : v ≡ item_wanted w = cc in inr (w, rest, refl, same)

role_behind : (front : List Kind) (known : Known) (role : ℕ) (items : List ItemWanted) → IsItemBehind (map item_of front) known (ItemWanted.RoleOf role ∷ items)
    → (rest : List Wanted) × IsBehind front known (RoleOf role ∷ rest)
role_behind front known role items leads =
    let (wanted, agree, r) = behind_back front known (ItemWanted.RoleOf role ∷ items) leads in
    elim (first_wanted wanted (ItemWanted.RoleOf role) items agree) [
      | inl e ↦ absurd cc
      | inr (w, rest, is, same) ↦ (rest, subst (IsBehind front known) (is ∙ ap (λ (x : Wanted). x ∷ rest) (role_is w role same)) r)
    ]

prefix_behind : (front : List Kind) (known : Known) (p : List ℕ) (items : List ItemWanted) → IsItemBehind (map item_of front) known (ItemWanted.PrefixIri p ∷ items)
    → (rest : List Wanted) × IsBehind front known (PrefixIri p ∷ rest)
prefix_behind front known p items leads =
    let (wanted, agree, r) = behind_back front known (ItemWanted.PrefixIri p ∷ items) leads in
    elim (first_wanted wanted (ItemWanted.PrefixIri p) items agree) [
      | inl e ↦ absurd cc
      | inr (w, rest, is, same) ↦ (rest, subst (IsBehind front known) (is ∙ ap (λ (x : Wanted). x ∷ rest) (prefix_is w p same)) r)
    ]

-- ---- causes

-- the token, or the item, stands for one of the two roles that are refused
abbrev IsRefusedRole : Known → Kind → ℕ → Type 0
IsRefusedRole known kind number = (Means known kind top_role × (number ≡ 45)) ⊎ (Means known kind bottom_role × (number ≡ 46))

abbrev IsRefusedItem : Known → Item → ℕ → Type 0
IsRefusedItem known item number = (ItemMeans known item top_role × (number ≡ 45)) ⊎ (ItemMeans known item bottom_role × (number ≡ 46))

refused_to : (known : Known) (kind : Kind) (number : ℕ) → IsRefusedRole known kind number → IsRefusedItem known (item_of kind) number
refused_to known kind number (inl (m, is)) = inl (means_to known kind top_role m, is)
refused_to known kind number (inr (m, is)) = inr (means_to known kind bottom_role m, is)

refused_back : (known : Known) (kind : Kind) (number : ℕ) → IsRefusedItem known (item_of kind) number → IsRefusedRole known kind number
refused_back known kind number (inl (m, is)) = inl (means_back known kind top_role m, is)
refused_back known kind number (inr (m, is)) = inr (means_back known kind bottom_role m, is)

no_role_to : (front : List Kind) (kind : Kind) (number : ℕ) → IsNoRole front kind number → IsItemNoRole (map item_of front) (item_of kind) number
no_role_to front kind number (known, role, wanted, behind, means) =
    let (items, agree, leads) = behind_to front known (RoleOf role ∷ wanted) behind in
    elim agree [
      | inl (last, none, is) ↦ absurd last
      | inr (fit, rest, is, more) ↦ (known, role, rest, subst (IsItemBehind (map item_of front) known) is leads, refused_to known kind number means)
    ]

no_role_back : (front : List Kind) (kind : Kind) (number : ℕ) → IsItemNoRole (map item_of front) (item_of kind) number → IsNoRole front kind number
no_role_back front kind number (known, role, items, behind, means) =
    let (rest, leads) = role_behind front known role items behind in
    (known, role, rest, leads, refused_back known kind number means)

construct_to : (front : List Kind) (next : Next) (number : ℕ) → IsConstruct front next number → IsItemRefused (map item_of front) (next_item next) number
construct_to front next number (inl (w, is, refused)) = inl (ap next_item is ∙ ap Item.Word (refused_key w number refused))
construct_to front next number (inr (kind, is, no_role)) =
    inr (subst (λ (n : Next). IsItemNoRole (map item_of front) (next_item n) number) (sym is) (no_role_to front kind number no_role))

construct_back : (front : List Kind) (next : Next) (number : ℕ) → IsItemRefused (map item_of front) (next_item next) number → IsConstruct front next number
construct_back front (Token kind) number (inl is) =
    let (v, is_word, keyed) = word_kind kind (Keyword.Refused number) is in inl (v, ap Token is_word, says_key v (Keyword.Refused number) keyed)
construct_back front (Token kind) number (inr no_role) = inr (kind, refl, no_role_back front kind number no_role)
construct_back front End number (inl is) = absurd cc
construct_back front End number (inr (known, role, items, behind, inl m)) = absurd m.0
construct_back front End number (inr (known, role, items, behind, inr m)) = absurd m.0
construct_back front Bad number (inl is) = absurd cc
construct_back front Bad number (inr (known, role, items, behind, inl m)) = absurd m.0
construct_back front Bad number (inr (known, role, items, behind, inr m)) = absurd m.0

unknown_to : (front : List Kind) (next : Next) → IsUnknown front next → IsItemUnknown (map item_of front) (next_item next)
unknown_to front next (p, l, is, known, wanted, behind, none) =
    let (items, agree, leads) = behind_to front known wanted behind in (p, l, ap next_item is, known, items, leads, none)

unknown_back : (front : List Kind) (next : Next) → IsItemUnknown (map item_of front) (next_item next) → IsUnknown front next
unknown_back front (Token kind) (p, l, is, known, items, behind, none) =
    let (wanted, agree, leads) = behind_back front known items behind in (p, l, ap Token (exact_kind kind (Short p l) tt is), known, wanted, leads, none)
unknown_back front End (p, l, is, known, items, behind, none) = absurd cc
unknown_back front Bad (p, l, is, known, items, behind, none) = absurd cc

clash_to : (front : List Kind) (next : Next) → IsClash front next → IsItemClash (map item_of front) (next_item next)
clash_to front next (p, i, is, known, wanted, behind, other) =
    let (items, agree, leads) = behind_to front known (PrefixIri p ∷ wanted) behind in
    elim agree [
      | inl (last, none, are) ↦ absurd last
      | inr (fit, rest, are, more) ↦ (p, i, ap next_item is, known, rest, subst (IsItemBehind (map item_of front) known) are leads, other)
    ]

clash_back : (front : List Kind) (next : Next) → IsItemClash (map item_of front) (next_item next) → IsClash front next
clash_back front (Token kind) (p, i, is, known, items, behind, other) =
    let (rest, leads) = prefix_behind front known p items behind in (p, i, ap Token (exact_kind kind (FullIri i) tt is), known, rest, leads, other)
clash_back front End (p, i, is, known, items, behind, other) = absurd cc
clash_back front Bad (p, i, is, known, items, behind, other) = absurd cc

pub cause_to : (front : List Kind) (next : Next) (cause : Cause) → IsCause front next cause → IsItemCause (map item_of front) (next_item next) cause
cause_to front next (Construct number) is = construct_to front next number is
cause_to front next Prefix (none, inl unknown) = (λ number c. none number (construct_back front next number c), inl (unknown_to front next unknown))
cause_to front next Prefix (none, inr clash) = (λ number c. none number (construct_back front next number c), inr (clash_to front next clash))
cause_to front next Depth (none, no_unknown, no_clash, deep) = (
  λ number c. none number (construct_back front next number c),
  λ u. no_unknown (unknown_back front next u),
  λ c. no_clash (clash_back front next c),
  goes_to (suc nesting) front next deep,
)
cause_to front next Syntax (none, no_unknown, no_clash, no_deep) = (
  λ number c. none number (construct_back front next number c),
  λ u. no_unknown (unknown_back front next u),
  λ c. no_clash (clash_back front next c),
  λ deep. no_deep (goes_back (suc nesting) front next deep),
)

pub cause_back : (front : List Kind) (next : Next) (cause : Cause) → IsItemCause (map item_of front) (next_item next) cause → IsCause front next cause
cause_back front next (Construct number) is = construct_back front next number is
cause_back front next Prefix (none, inl unknown) = (λ number c. none number (construct_to front next number c), inl (unknown_back front next unknown))
cause_back front next Prefix (none, inr clash) = (λ number c. none number (construct_to front next number c), inr (clash_back front next clash))
cause_back front next Depth (none, no_unknown, no_clash, deep) = (
  λ number c. none number (construct_to front next number c),
  λ u. no_unknown (unknown_to front next u),
  λ c. no_clash (clash_to front next c),
  goes_back (suc nesting) front next deep,
)
cause_back front next Syntax (none, no_unknown, no_clash, no_deep) = (
  λ number c. none number (construct_to front next number c),
  λ u. no_unknown (unknown_to front next u),
  λ c. no_clash (clash_to front next c),
  λ deep. no_deep (goes_to (suc nesting) front next deep),
)

-- ---- faults

-- a fault among items is one among their tokens
pub fault_back : (front : List Kind) (next : Next) (cause : Cause) → IsItemFront nesting (map item_of front)
    → (IsItemFront nesting (map item_of front ++ next_item next ∷ []) → ⊥) → IsItemCause (map item_of front) (next_item next) cause → IsFault front next cause
fault_back front next cause before none is = record {
  before = front_back nesting front before;
  none = λ goes. none (goes_to nesting front next goes);
  cause_is = cause_back front next cause is;
}
