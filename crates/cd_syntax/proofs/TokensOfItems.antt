-- Tokens are derived in the grammar over tokens where their items are in the grammar over items.
use Rattle.std.proofs.Common.{◌≡◌, ℕ, List, [], ◌∷◌, ◌++◌, map, refl, sym, ap, subst, ◌∙◌, inl, inr, append-nil}
use Rattle.std.specs.Prelude.{codes}
use Rattle.cd_lex.specs.declared.token.Kind.{Kind}
use Rattle.cd_lex.specs.declared.token.Kind.TheVariants.{Opening, Closing, Equals, Carets, Word, Short, Node, FullIri, Quoted, Lang}
use Rattle.cd_syntax.specs.declared.item.Item.{Item}
use Rattle.cd_syntax.specs.declared.known.Known.{Known}
use Rattle.cd_syntax.specs.declared.words.Keyword.{Keyword}
use Rattle.cd_syntax.specs.Grammar.{Wanted, Exact, AnyWord, AnyIri, Subject, PrefixIri, ClassOf, RoleOf, ClosingOf, Text, OntologyIri, Annotations, Axioms, Means, Stands, Leads}
use Rattle.cd_syntax.proofs.ItemGrammar.{Wanted as ItemWanted, Means as ItemMeans, Stands as ItemStands, Line as ItemLine, Leads as ItemLeads}
use Rattle.cd_syntax.specs.Items.{item_of}
use Rattle.cd_syntax.specs.Words.{key_of}
use Rattle.cd_syntax.proofs.Keywords.{IsOneWordOf, contains_of, says_key}
use Rattle.cd_syntax.proofs.ItemsOfTokens.{item_wanted, any_key, Fit, IsLast, Agree, agree-append, stands_to, no_last}
use Rattle.cd_syntax.proofs.LinesOfTokens.{line_to, line_back, last_to, last_back}

-- ---- the tokens of an item

pub means_back : (known : Known) (kind : Kind) (iri : List ℕ) → ItemMeans known (item_of kind) iri → Means known kind iri
means_back known (FullIri i) iri m = m
means_back known (Short p l) iri m = m
means_back known kind iri m = absurd m

-- the token of an item that stands for itself
pub exact_kind : (kind k : Kind) → Fit (Exact k) → item_of kind ≡ item_of k → kind ≡ k
exact_kind (Word v) (Word w) fit is = let same : key_of v ≡ key_of w = cc in ap Word (fit v same)
exact_kind Opening Opening fit is = refl
exact_kind Closing Closing fit is = refl
exact_kind Equals Equals fit is = refl
exact_kind Carets Carets fit is = refl
exact_kind Quoted Quoted fit is = refl
exact_kind Lang Lang fit is = refl
exact_kind (Short p l) (Short q m) fit is = cc
exact_kind (Node l) (Node m) fit is = cc
exact_kind (FullIri i) (FullIri j) fit is = cc
exact_kind kind k fit is = absurd cc

-- the token of a word's item is a word of this key
pub word_kind : (kind : Kind) (key : Keyword) → item_of kind ≡ Item.Word key → (v : List ℕ) × (kind ≡ Word v) × (key_of v ≡ key)
word_kind (Word v) key is = (v, refl, cc)
word_kind kind key is = absurd cc

-- a token whose item may stand for any of the words
words_back : (known after : Known) (words : List (List ℕ)) (kind : Kind) → Fit (AnyWord words) → item_of kind ≡ Item.Word (any_key words) → after ≡ known
    → Stands known (AnyWord words) kind after
words_back known after words kind (inl are) is same =
    let (v, is_word, keyed) = word_kind kind (any_key words) is in
    (v, is_word, contains_of words v (subst (λ (ws : List (List ℕ)). (key_of v ≡ any_key ws) → IsOneWordOf ws v) (sym are) (λ e. says_key v Keyword.Entity e) keyed), same)
words_back known after words kind (inr are) is same =
    let (v, is_word, keyed) = word_kind kind (any_key words) is in
    (v, is_word, contains_of words v (subst (λ (ws : List (List ℕ)). (key_of v ≡ any_key ws) → IsOneWordOf ws v) (sym are) (λ e. says_key v Keyword.AnnotationAxiom e) keyed), same)

-- a token stands where its item does
pub stands_back : (known : Known) (w : Wanted) (kind : Kind) (after : Known) → Fit w → ItemStands known (item_wanted w) (item_of kind) after → Stands known w kind after
stands_back known (Exact k) kind after fit (is, same) = (exact_kind kind k fit is, same)
stands_back known (AnyWord words) kind after fit (is, same) = words_back known after words kind fit is same
stands_back known AnyIri kind after fit ((iri, m), same) = ((iri, means_back known kind iri m), same)
stands_back known Subject kind after fit (inl (iri, m), same) = (inl (iri, means_back known kind iri m), same)
stands_back known Subject kind after fit (inr (label, is, named), same) = (inr (label, exact_kind kind (Node label) tt is, named), same)
stands_back known (PrefixIri p) kind after fit (i, is, which, same) = (i, exact_kind kind (FullIri i) tt is, which, same)
stands_back known (ClassOf c) kind after fit (i, m, numbered, same) = (i, means_back known kind i m, numbered, same)
stands_back known (RoleOf r) kind after fit (i, m, no_top, no_bottom, numbered, same) = (i, means_back known kind i m, no_top, no_bottom, numbered, same)
stands_back known (ClosingOf a) kind after fit (is, same) = (exact_kind kind Closing tt is, same)
stands_back known w kind after fit stands = absurd stands

-- it is the item of a token
abbrev pub HasToken : Item → Type 0
HasToken item = (kind : Kind) × (item ≡ item_of kind)

means_token : (known : Known) (item : Item) (iri : List ℕ) → ItemMeans known item iri → HasToken item
means_token known (Item.FullIri i) iri m = (FullIri i, refl)
means_token known (Item.Short p l) iri m = (Short p l, refl)
means_token known item iri m = absurd m

-- an item that stands at its place is that of a token
pub stood_token : (known : Known) (w : Wanted) (item : Item) (after : Known) → Fit w → ItemStands known (item_wanted w) item after → HasToken item
stood_token known (Exact k) item after fit (is, same) = (k, is)
stood_token known (AnyWord words) item after (inl are) (is, same) =
    (Word (codes "Datatype"), is ∙ ap (λ (ws : List (List ℕ)). Item.Word (any_key ws)) are)
stood_token known (AnyWord words) item after (inr are) (is, same) =
    (Word (codes "SubAnnotationPropertyOf"), is ∙ ap (λ (ws : List (List ℕ)). Item.Word (any_key ws)) are)
stood_token known AnyIri item after fit ((iri, m), same) = means_token known item iri m
stood_token known Subject item after fit (inl (iri, m), same) = means_token known item iri m
stood_token known Subject item after fit (inr (label, is, named), same) = (Node label, is)
stood_token known (PrefixIri p) item after fit (i, is, which, same) = (FullIri i, is)
stood_token known (ClassOf c) item after fit (i, m, numbered, same) = means_token known item i m
stood_token known (RoleOf r) item after fit (i, m, no_top, no_bottom, numbered, same) = means_token known item i m
stood_token known (ClosingOf a) item after fit (is, same) = (Closing, is)
stood_token known w item after fit stands = absurd stands

-- no item stands where lines are wanted up to the end
no_last_item : (known : Known) (w : Wanted) (item : Item) (after : Known) → IsLast w → ItemStands known (item_wanted w) item after → ⊥
no_last_item known Text item after last stands = stands
no_last_item known OntologyIri item after last stands = stands
no_last_item known Annotations item after last stands = stands
no_last_item known Axioms item after last stands = stands
no_last_item known w item after last stands = last

-- a token is no end
pub no_end : (kind : Kind) → Item.End ≡ item_of kind → ⊥
no_end Opening e = cc
no_end kind e = cc

-- nor a bad byte
pub no_bad : (kind : Kind) → Item.Bad ≡ item_of kind → ⊥
no_bad Opening e = cc
no_bad kind e = cc

-- ---- from tokens to items

module _ (most : ℕ) where
  -- a line of what is wanted up to the end has nothing behind it
  last_agree : (parts wanted : List Wanted) (items : List ItemWanted) → wanted ≡ [] → Agree parts items → Agree (parts ++ wanted) (items ++ [])
  last_agree parts wanted items none agree =
      subst (λ (rest : List Wanted). Agree (parts ++ rest) (items ++ [])) (sym none)
      (subst (λ (ps : List Wanted). Agree ps (items ++ [])) (sym (append-nil parts)) (subst (Agree parts) (sym (append-nil items)) agree))

  -- items lead on from what agrees with what is wanted of tokens, to what agrees
  abbrev pub Onwards : Known → List ItemWanted → List Item → Known → List Wanted → Type 0
  Onwards known items line known' wanted' = (items' : List ItemWanted) × Agree wanted' items' × ItemLeads most known items line known' items'

  at_items : (known known' : Known) (items items' : List ItemWanted) (line : List Item) (wanted' : List Wanted) → items ≡ items' → Onwards known items' line known' wanted'
      → Onwards known items line known' wanted'
  at_items known known' items items' line wanted' e o = subst (λ (x : List ItemWanted). Onwards known x line known' wanted') (sym e) o

  -- the items of a derivation's tokens have one
  pub forward : {known known' : Known} {wanted wanted' : List Wanted} {kinds : List Kind} (items : List ItemWanted) → Agree wanted items
      → Leads most known wanted kinds known' wanted' → Onwards known items (map item_of kinds) known' wanted'
  forward items agree Leads.here = (items, agree, ItemLeads.here)
  forward items (inl (last, none, is)) (Leads.one {known} {after} {w = w} {kind = kind} s r) = absurd (no_last known w kind after last s)
  forward items (inr (fit, rest, is, agree)) (Leads.one {known} {after} {known'} {w = w} {wanted' = wanted'} {kind = kind} {kinds = kinds} s r) =
      let (items', ends, leads) = forward rest agree r in
      at_items known known' items (item_wanted w ∷ rest) (item_of kind ∷ map item_of kinds) wanted' is (items', ends, ItemLeads.one (stands_to known w kind after fit s) leads)
  forward items (inl (last, none, is)) (Leads.by_line {known} {known'} {w = w} {wanted = wanted} {wanted' = wanted'} {kinds = kinds} parts l r) =
      let (lines, il, ends) = last_to most w parts last l in
      let (items', done, leads) = forward (lines ++ []) (last_agree parts wanted lines none ends) r in
      at_items known known' items (item_wanted w ∷ []) (map item_of kinds) wanted' is (items', done, ItemLeads.line lines il leads)
  forward items (inr (fit, rest, is, agree)) (Leads.by_line {known} {known'} {w = w} {wanted = wanted} {wanted' = wanted'} {kinds = kinds} parts l r) =
      let (il, fits) = line_to most w parts fit l in
      let (items', done, leads) = forward (map item_wanted parts ++ rest) (agree-append parts wanted rest fits agree) r in
      at_items known known' items (item_wanted w ∷ rest) (map item_of kinds) wanted' is (items', done, ItemLeads.line (map item_wanted parts) il leads)

  -- ---- from items to tokens

  -- tokens lead on from what is wanted of them, to what agrees with these items
  abbrev pub Backwards : Known → List Wanted → List Kind → Known → List ItemWanted → Type 0
  Backwards known wanted kinds known' items' = (wanted' : List Wanted) × Agree wanted' items' × Leads most known wanted kinds known' wanted'

  -- what is wanted first
  head_is : (v : ItemWanted) (rest items : List ItemWanted) (w : ItemWanted) → v ∷ rest ≡ w ∷ items → (v ≡ w) × (rest ≡ items)
  head_is v rest items w e = let p : v ≡ w = cc in let q : rest ≡ items = cc in (p, q)

  first_is : (item kind : Item) (items kinds : List Item) → item ∷ items ≡ kind ∷ kinds → (item ≡ kind) × (items ≡ kinds)
  first_is item kind items kinds e = let p : item ≡ kind = cc in let q : items ≡ kinds = cc in (p, q)

  -- an item stands where it does by equal names
  stands_as : (known after : Known) (v w : ItemWanted) (item item' : Item) → v ≡ w → item ≡ item' → ItemStands known v item after → ItemStands known w item' after
  stands_as known after v w item item' e f s =
      subst (λ (x : ItemWanted). ItemStands known x item' after) e (subst (λ (i : Item). ItemStands known v i after) f s)

  line_as : (v w : ItemWanted) (parts : List ItemWanted) → v ≡ w → ItemLine most v parts → ItemLine most w parts
  line_as v w parts e l = subst (λ (x : ItemWanted). ItemLine most x parts) e l

  no_ended : (known after : Known) (v : ItemWanted) (item : Item) (kind : Kind) → v ≡ ItemWanted.Exact Item.End → item ≡ item_of kind → ItemStands known v item after → ⊥
  no_ended known after v item kind e f s =
      let t = stands_as known after v (ItemWanted.Exact Item.End) item (item_of kind) e f s in
      no_end kind (sym t.0)

  -- the tokens of a derivation's items have one
  pub backward : {known known' : Known} {items items' : List ItemWanted} {line : List Item} (wanted : List Wanted) (kinds : List Kind) → Agree wanted items
      → line ≡ map item_of kinds → ItemLeads most known items line known' items' → Backwards known wanted kinds known' items'
  backward wanted [] agree e ItemLeads.here = (wanted, agree, Leads.here)
  backward wanted (kind ∷ kinds) agree e ItemLeads.here = absurd cc
  backward wanted [] agree e (ItemLeads.one s r) = absurd cc
  backward [] (kind ∷ kinds) agree e (ItemLeads.one {known} {after} {w = v} {wanted = rest} {item = item} {items = items} s r) =
      absurd (no_ended known after v item kind (head_is v rest [] (ItemWanted.Exact Item.End) agree).0 (first_is item (item_of kind) items (map item_of kinds) e).0 s)
  backward (w ∷ wanted) (kind ∷ kinds) (inl (last, none, is)) e (ItemLeads.one {known} {after} {w = v} {wanted = rest} {item = item} s r) =
      absurd (no_last_item known w item after last (stands_as known after v (item_wanted w) item item (head_is v rest [] (item_wanted w) is).0 refl s))
  backward (w ∷ wanted) (kind ∷ kinds) (inr (fit, more, is, agree)) e (ItemLeads.one {known} {after} {w = v} {wanted = rest} {item = item} {items = items} s r) =
      let same = head_is v rest more (item_wanted w) is in
      let first = first_is item (item_of kind) items (map item_of kinds) e in
      let (wanted', ends, leads) = backward wanted kinds (subst (Agree wanted) (sym same.1) agree) first.1 r in
      (wanted', ends, Leads.one (stands_back known w kind after fit (stands_as known after v (item_wanted w) item (item_of kind) same.0 first.0 s)) leads)
  backward [] kinds agree e (ItemLeads.line {w = v} {wanted = rest} parts l r) =
      absurd (line_as v (ItemWanted.Exact Item.End) parts (head_is v rest [] (ItemWanted.Exact Item.End) agree).0 l)
  backward (w ∷ wanted) kinds (inl (last, none, is)) e (ItemLeads.line {w = v} {wanted = rest} parts l r) =
      let same = head_is v rest [] (item_wanted w) is in
      let (lines, tl, ends) = last_back most w parts last (line_as v (item_wanted w) parts same.0 l) in
      let agree = subst (λ (x : List ItemWanted). Agree (lines ++ wanted) (parts ++ x)) (sym same.1) (last_agree lines wanted parts none ends) in
      let (wanted', done, leads) = backward (lines ++ wanted) kinds agree e r in
      (wanted', done, Leads.by_line lines tl leads)
  backward (w ∷ wanted) kinds (inr (fit, more, is, agree)) e (ItemLeads.line {w = v} {wanted = rest} parts l r) =
      let same = head_is v rest more (item_wanted w) is in
      let (lines, tl, are) = line_back most w parts fit (line_as v (item_wanted w) parts same.0 l) in
      let fits = (line_to most w lines fit tl).1 in
      let both = agree-append lines wanted rest fits (subst (Agree wanted) (sym same.1) agree) in
      let (wanted', done, leads) = backward (lines ++ wanted) kinds (subst (λ (x : List ItemWanted). Agree (lines ++ wanted) (x ++ rest)) (sym are) both) e r in
      (wanted', done, Leads.by_line lines tl leads)

  -- ---- to the end of the text

  -- nothing leads to nothing alone
  nothing_leads : {known known' : Known} {items items' : List ItemWanted} {line : List Item} → items ≡ [] → ItemLeads most known items line known' items'
      → (line ≡ []) × (known ≡ known')
  nothing_leads e ItemLeads.here = (refl, refl)
  nothing_leads e (ItemLeads.one s r) = absurd cc
  nothing_leads e (ItemLeads.line parts l r) = absurd cc

  -- the items are those of tokens, which lead to nothing wanted, and the end
  abbrev pub Completed : Known → List Wanted → List Item → Known → Type 0
  Completed known wanted line known' = (kinds : List Kind) × (line ≡ map item_of kinds ++ Item.End ∷ []) × Leads most known wanted kinds known' []

  ended : (known after known' : Known) (v : ItemWanted) (item : Item) (line : List Item) → v ≡ ItemWanted.Exact Item.End → ItemStands known v item after
      → (line ≡ []) × (after ≡ known') → Completed known [] (item ∷ line) known'
  ended known after known' v item line e s last =
      let t = stands_as known after v (ItemWanted.Exact Item.End) item item e refl s in
      let is : item ≡ Item.End = t.0 in
      let same : known ≡ known' = sym t.1 ∙ last.1 in (
        [],
        ap (λ (x : Item). x ∷ line) is ∙ ap (λ (xs : List Item). Item.End ∷ xs) last.0,
        subst (λ (k : Known). Leads most known [] [] k []) same Leads.here,
      )

  -- items that lead to nothing wanted
  pub completed : {known known' : Known} {items items' : List ItemWanted} {line : List Item} (wanted : List Wanted) → Agree wanted items → items' ≡ []
      → ItemLeads most known items line known' items' → Completed known wanted line known'
  completed [] agree e ItemLeads.here = absurd cc
  completed (w ∷ wanted) (inl (last, none, is)) e ItemLeads.here = absurd cc
  completed (w ∷ wanted) (inr (fit, more, is, agree)) e ItemLeads.here = absurd cc
  completed [] agree e (ItemLeads.one {known} {after} {known'} {w = v} {wanted = rest} {item = item} {items = line} s r) =
      let same = head_is v rest [] (ItemWanted.Exact Item.End) agree in
      ended known after known' v item line same.0 s (nothing_leads same.1 r)
  completed (w ∷ wanted) (inl (last, none, is)) e (ItemLeads.one {known} {after} {w = v} {wanted = rest} {item = item} s r) =
      absurd (no_last_item known w item after last (stands_as known after v (item_wanted w) item item (head_is v rest [] (item_wanted w) is).0 refl s))
  completed (w ∷ wanted) (inr (fit, more, is, agree)) e (ItemLeads.one {known} {after} {w = v} {wanted = rest} {item = item} {items = line} s r) =
      let same = head_is v rest more (item_wanted w) is in
      let stands = stands_as known after v (item_wanted w) item item same.0 refl s in
      let (kind, token) = stood_token known w item after fit stands in
      let (kinds, are, leads) = completed wanted (subst (Agree wanted) (sym same.1) agree) e r in (
        kind ∷ kinds,
        ap (λ (x : Item). x ∷ line) token ∙ ap (λ (xs : List Item). item_of kind ∷ xs) are,
        Leads.one (stands_back known w kind after fit (stands_as known after (item_wanted w) (item_wanted w) item (item_of kind) refl token stands)) leads,
      )
  completed [] agree e (ItemLeads.line {w = v} {wanted = rest} parts l r) =
      absurd (line_as v (ItemWanted.Exact Item.End) parts (head_is v rest [] (ItemWanted.Exact Item.End) agree).0 l)
  completed (w ∷ wanted) (inl (last, none, is)) e (ItemLeads.line {w = v} {wanted = rest} parts l r) =
      let same = head_is v rest [] (item_wanted w) is in
      let (lines, tl, ends) = last_back most w parts last (line_as v (item_wanted w) parts same.0 l) in
      let agree = subst (λ (x : List ItemWanted). Agree (lines ++ wanted) (parts ++ x)) (sym same.1) (last_agree lines wanted parts none ends) in
      let (kinds, are, leads) = completed (lines ++ wanted) agree e r in
      (kinds, are, Leads.by_line lines tl leads)
  completed (w ∷ wanted) (inr (fit, more, is, agree)) e (ItemLeads.line {w = v} {wanted = rest} parts l r) =
      let same = head_is v rest more (item_wanted w) is in
      let (lines, tl, are) = line_back most w parts fit (line_as v (item_wanted w) parts same.0 l) in
      let fits = (line_to most w lines fit tl).1 in
      let both = agree-append lines wanted rest fits (subst (Agree wanted) (sym same.1) agree) in
      let (kinds, whole, leads) = completed (lines ++ wanted) (subst (λ (x : List ItemWanted). Agree (lines ++ wanted) (x ++ rest)) (sym are) both) e r in
      (kinds, whole, Leads.by_line lines tl leads)
