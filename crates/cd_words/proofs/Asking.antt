-- Words are heard as a request exactly where they ask for it.
use Rattle.std.proofs.Common.{◌≡◌, ◌⊎◌, ℕ, true, true≢false, List, [], ◌∷◌, codes, Option, Some, None, Result, Ok, Err, IfSome, IfNone, IfOk, IsErrOf, ok_or, ◌↔◌, is_some, option_map, option_and_then, refl, ap, ap₂, sym, subst, ◌∙◌, inl, inr, bytes_eq}
use Rattle.std.proofs.lemmas.Slice.Eq.{bytes_eq-Decides}
use Rattle.std.specs.Option.{unwrap_or}
use Rattle.cd_base.specs.declared.limits.Limits.{Limits}
use Rattle.cd_words.specs.Form.{Bytes, Part, limit, words_of, numeral, values, own_words, asked_number, IsCommand, Asks, AsksOnly, HaveSameNumbers, IsOfForm}
use Rattle.clap.specs.Words.{all_of, matches_of, takes}
use Rattle.cd_words.specs.CommandLine.{command_line}
use Rattle.cd_words.specs.Heard.{IsVerb, HasNumbers, IsHeardAs, heard_of, number_found, verb_found}
use Rattle.cd_words.specs.Reading.{heard_all, nothing_heard, verb_after}
use Rattle.cd_words.specs.declared.request.Ask.{Ask}
use Rattle.cd_words.specs.declared.request.AskFault.{AskFault}
use Rattle.cd_words.specs.declared.request.AskFault.TheVariants as fault
use Rattle.cd_words.specs.declared.request.Command.{Command}
use Rattle.cd_words.specs.declared.request.Command.TheVariants as command
use Rattle.cd_words.specs.declared.heard.Heard.{Heard}
use Rattle.cd_words.specs.declared.heard.Verb.{Verb}
use Rattle.cd_words.specs.declared.heard.Verb.TheVariants.{Missing, Classify, Trial}
use Rattle.cd_words.specs.declared.setting.Setting.TheVariants.{Workers, Cells, MaxContexts, MaxFacts}
use Rattle.cd_words.proofs.Pieces.{some≢none, is_or_not, heard_pieces, number_after, verb_after_all, HasNumbersAfter, pieces_heard, pieces_come, first_step}
use Rattle.cd_words.proofs.Turns.{words_heard, of_pieces}
use Rattle.cd_words.proofs.Rows.{listed}
use Rattle.cd_words.proofs.Found.{clap_takes}

-- ---- the numbers of options

some_same : {X : Type 0} (x y : X) (o : Option X) → o ≡ Some x → o ≡ Some y → x ≡ y
some_same x y o e f = cc

read_number : (standard : ℕ) (vs : List Bytes) (end : Option ℕ) → number_after None vs ≡ Some end → asked_number standard vs ≡ Some (unwrap_or end standard)
read_number standard [] end e = let is : None ≡ end = cc in ap (λ (o : Option ℕ). Some (unwrap_or o standard)) is
read_number standard (v ∷ []) end e =
    let first = first_step (numeral v) (λ n. Some (Some n)) end e in
    let is : Some first.0 ≡ end = cc in
    first.1 ∙ ap (λ (o : Option ℕ). Some (unwrap_or o standard)) is
read_number standard (v ∷ w ∷ more) end e =
    let first = first_step (numeral v) (λ n. number_after (Some n) (w ∷ more)) end e in
    absurd (some≢none end (sym first.2))

number_read : (standard n : ℕ) (vs : List Bytes) → asked_number standard vs ≡ Some n → (end : Option ℕ) × (number_after None vs ≡ Some end) × (unwrap_or end standard ≡ n)
number_read standard n [] e = (None, refl, cc)
number_read standard n (v ∷ []) e = (Some n, rw e refl, refl)
number_read standard n (v ∷ w ∷ more) e = absurd (some≢none n (sym e))

-- ---- the command

-- the first word on its own
first_word : (w : Bytes) (verb : Verb) → verb_after Missing w ≡ Some verb → ((w ≡ codes "classify") × (verb ≡ Classify)) ⊎ ((w ≡ codes "trial") × (verb ≡ Trial None))
first_word w verb e = elim (is_or_not (bytes_eq w (codes "classify"))) [
  | inl is ↦ inl ((bytes_eq-Decides w (codes "classify")).0 is, some_same verb Classify _ e (rw is refl))
  | inr isnt ↦ elim (is_or_not (bytes_eq w (codes "trial"))) [
    | inl is ↦ inr ((bytes_eq-Decides w (codes "trial")).0 is, some_same verb (Trial None) _ e (rw (isnt, is) refl))
    | inr other ↦ absurd (some≢none verb (sym e ∙ rw (isnt, other) refl))
  ]
]

no_more : (verb end : Verb) (ws : List Bytes) → ((w : Bytes) → verb_after verb w ≡ None) → verb_after_all verb ws ≡ Some end → (ws ≡ []) × (verb ≡ end)
no_more verb end [] none e = (refl, cc)
no_more verb end (w ∷ ws) none e = absurd (some≢none end (sym e ∙ ap (option_and_then (λ next. verb_after_all next ws)) (none w)))

after_trial : (ws : List Bytes) (end : Verb) → verb_after_all (Trial None) ws ≡ Some end
    → (Trial None ≡ end) ⊎ ((value : Bytes) × (n : ℕ) × (ws ≡ value ∷ []) × (numeral value ≡ Some n) × (Trial (Some n) ≡ end))
after_trial [] end e = inl cc
after_trial (value ∷ ws) end e =
    let first = first_step (option_map (λ n. Trial (Some n)) (numeral value)) (λ next. verb_after_all next ws) end e in
    let asked_number = mapped (numeral value) first.0 first.1 in
    let ends = no_more (Trial (Some asked_number.0)) end ws (λ w. refl) (ap (λ (x : Verb). verb_after_all x ws) asked_number.2 ∙ first.2) in
    inr (value, asked_number.0, ap (λ (more : List Bytes). value ∷ more) ends.0, asked_number.1, ends.1)
  where
    mapped : (o : Option ℕ) (verb : Verb) → option_map (λ n. Trial (Some n)) o ≡ Some verb → (n : ℕ) × (o ≡ Some n) × (Trial (Some n) ≡ verb)
    mapped None verb e = absurd (some≢none verb (sym e))
    mapped (Some n) verb e = (n, refl, cc)

read_verb : (words : List Bytes) (end : Verb) (request : Command) → verb_after_all Missing words ≡ Some end → IsVerb end request → IsCommand words request
read_verb [] end command.Classify e is = let bad : Missing ≡ Classify = cc in absurd (cc)
read_verb [] end (command.Trial n) e is = let bad : end ≡ Trial (Some n) = is.0 in let worse : Missing ≡ Trial (Some n) = cc in absurd (cc)
read_verb (w ∷ ws) end command.Classify e is =
    let first = first_step (verb_after Missing w) (λ next. verb_after_all next ws) end e in
    elim (first_word w first.0 first.1) [
      | inl c ↦ let ends = no_more Classify end ws (λ w. refl) (ap (λ (x : Verb). verb_after_all x ws) (sym c.1) ∙ first.2) in ap₂ (λ (x : Bytes) (xs : List Bytes). x ∷ xs) c.0 ends.0
      | inr t ↦ absurd (elim (after_trial ws end (ap (λ (x : Verb). verb_after_all x ws) (sym t.1) ∙ first.2)) [
        | inl bare ↦ let bad : Trial None ≡ Classify = bare ∙ is in cc
        | inr sized ↦ let bad : Trial (Some sized.1) ≡ Classify = sized.4 ∙ is in cc
      ])
    ]
read_verb (w ∷ ws) end (command.Trial n) e is =
    let first = first_step (verb_after Missing w) (λ next. verb_after_all next ws) end e in
    elim (first_word w first.0 first.1) [
      | inl c ↦
          let ends = no_more Classify end ws (λ w. refl) (ap (λ (x : Verb). verb_after_all x ws) (sym c.1) ∙ first.2) in
          let bad : Classify ≡ Trial (Some n) = ends.1 ∙ is.0 in
          absurd (cc)
      | inr t ↦ elim (after_trial ws end (ap (λ (x : Verb). verb_after_all x ws) (sym t.1) ∙ first.2)) [
        | inl bare ↦ let bad : Trial None ≡ Trial (Some n) = bare ∙ is.0 in absurd (cc)
        | inr sized ↦
            let same : Trial (Some sized.1) ≡ Trial (Some n) = sized.4 ∙ is.0 in
            let asked_number : sized.1 ≡ n = cc in
            (sized.0, ap₂ (λ (x : Bytes) (xs : List Bytes). x ∷ xs) t.0 sized.2, sized.3 ∙ ap Some asked_number, is.1)
      ]
    ]

verb_read : (words : List Bytes) (request : Command) → IsCommand words request → (end : Verb) × (verb_after_all Missing words ≡ Some end) × IsVerb end request
verb_read words command.Classify is = (Classify, rw is refl, refl)
verb_read words (command.Trial n) (value, is, read, small) = (Trial (Some n), rw (is, read) refl, (refl, small))

-- ---- both ways

pub heard_asks : (words : List Bytes) (end : Heard) (request : Command) (limits : Limits) → heard_all nothing_heard words ≡ Some end
    → IsHeardAs end request limits → Asks words request limits
heard_asks words end request limits e is =
    let pieces = of_pieces words nothing_heard end refl is.complete e in
    let h = pieces_heard pieces.0 nothing_heard end pieces.2 in
    record {
      parts = pieces.0;
      spelled = pieces.1;
      command = read_verb (own_words pieces.0) end.verb request h.verb is.verb;
      workers = read_number 4 (values Workers pieces.0) end.workers (h.numbers Workers) ∙ ap Some is.numbers.workers;
      cells = read_number 256 (values Cells pieces.0) end.cells (h.numbers Cells) ∙ ap Some is.numbers.cells;
      max_contexts = read_number 1000000 (values MaxContexts pieces.0) end.max_contexts (h.numbers MaxContexts) ∙ ap Some is.numbers.max_contexts;
      max_facts = read_number 10000000 (values MaxFacts pieces.0) end.max_facts (h.numbers MaxFacts) ∙ ap Some is.numbers.max_facts;
      max_bytes = is.numbers.max_bytes;
    }

abbrev HasNumber : List Bytes → Type 0
HasNumber vs = (end : Option ℕ) × (number_after None vs ≡ Some end)

by_option : (pieces : List Part) → HasNumber (values Workers pieces) → HasNumber (values Cells pieces) → HasNumber (values MaxContexts pieces)
    → HasNumber (values MaxFacts pieces) → HasNumbersAfter nothing_heard pieces
by_option pieces workers cells max_contexts max_facts Workers = workers
by_option pieces workers cells max_contexts max_facts Cells = cells
by_option pieces workers cells max_contexts max_facts MaxContexts = max_contexts
by_option pieces workers cells max_contexts max_facts MaxFacts = max_facts

pub asks_pieces : (words : List Bytes) (request : Command) (limits : Limits) (a : Asks words request limits)
    → (end : Heard) × (heard_pieces nothing_heard a.parts ≡ Some end) × IsHeardAs end request limits
asks_pieces words request limits a =
    let workers = number_read 4 limits.workers (values Workers a.parts) a.workers in
    let cells = number_read 256 limits.cells (values Cells a.parts) a.cells in
    let max_contexts = number_read 1000000 limits.max_contexts (values MaxContexts a.parts) a.max_contexts in
    let max_facts = number_read 10000000 limits.max_facts (values MaxFacts a.parts) a.max_facts in
    let verb = verb_read (own_words a.parts) request a.command in
    let numbers = by_option a.parts (workers.0, workers.1) (cells.0, cells.1) (max_contexts.0, max_contexts.1) (max_facts.0, max_facts.1) in
    let end = pieces_come a.parts nothing_heard numbers (verb.0, verb.1) in
    let h = pieces_heard a.parts nothing_heard end.0 end.1 in (
      end.0,
      end.1,
      record {
        complete = h.waiting refl;
        verb = rw (some_same verb.0 end.0.verb _ verb.1 h.verb) at verb.2;
        numbers = record {
          workers = ap (λ (o : Option ℕ). unwrap_or o 4) (some_same end.0.workers workers.0 _ (h.numbers Workers) workers.1) ∙ workers.2;
          cells = ap (λ (o : Option ℕ). unwrap_or o 256) (some_same end.0.cells cells.0 _ (h.numbers Cells) cells.1) ∙ cells.2;
          max_contexts = ap (λ (o : Option ℕ). unwrap_or o 1000000) (some_same end.0.max_contexts max_contexts.0 _ (h.numbers MaxContexts) max_contexts.1) ∙ max_contexts.2;
          max_facts = ap (λ (o : Option ℕ). unwrap_or o 10000000) (some_same end.0.max_facts max_facts.0 _ (h.numbers MaxFacts) max_facts.1) ∙ max_facts.2;
          max_bytes = a.max_bytes;
        };
      },
    )

pub asks_heard : (words : List Bytes) (request : Command) (limits : Limits) → Asks words request limits
    → (end : Heard) × (heard_all nothing_heard words ≡ Some end) × IsHeardAs end request limits
asks_heard words request limits a =
    let end = asks_pieces words request limits a in
    (end.0, ap (heard_all nothing_heard) a.spelled ∙ words_heard a.parts nothing_heard end.0 refl end.1, end.2)

-- ---- what that says of an answer

same_verb : (end : Verb) (a b : Command) → IsVerb end a → IsVerb end b → a ≡ b
same_verb end command.Classify command.Classify p q = refl
same_verb end command.Classify (command.Trial n) p q = let bad : Classify ≡ Trial (Some n) = sym p ∙ q.0 in absurd (cc)
same_verb end (command.Trial n) command.Classify p q = let bad : Classify ≡ Trial (Some n) = sym q ∙ p.0 in absurd (cc)
same_verb end (command.Trial m) (command.Trial n) p q =
    let same : Trial (Some m) ≡ Trial (Some n) = sym p.0 ∙ q.0 in
    let asked_number : m ≡ n = cc in
    ap (λ (k : ℕ). command.Trial k) asked_number

same_limits : (end : Heard) (a b : Limits) → HasNumbers end a → HasNumbers end b → HaveSameNumbers a b
same_limits end a b p q = record {
  workers = sym p.workers ∙ q.workers;
  cells = sym p.cells ∙ q.cells;
  max_contexts = sym p.max_contexts ∙ q.max_contexts;
  max_facts = sym p.max_facts ∙ q.max_facts;
  max_bytes = p.max_bytes ∙ sym q.max_bytes;
}

pub unheard : (words : List Bytes) → heard_all nothing_heard words ≡ None → IsOfForm words → ⊥
unheard words none (request, limits, asks) =
    let heard = asks_heard words request limits asks in
    some≢none heard.0 (sym heard.1 ∙ none)

-- what all words were heard as tells what they ask, and that they ask nothing else
pub tells : (words : List Bytes) (end : Heard) (o : Option Ask) → heard_all nothing_heard words ≡ Some end
    → IfSome o (λ asked. IsHeardAs end asked.command asked.limits) → IfNone o ((request : Command) → (limits : Limits) → IsHeardAs end request limits → ⊥)
    → IfOk (ok_or o fault.Usage) (λ asked. Asks words asked.command asked.limits)
    × IfOk (ok_or o fault.Usage) (λ asked. AsksOnly words asked.command asked.limits)
    × (IsErrOf (ok_or o fault.Usage) fault.Usage ↔ (IsOfForm words → ⊥))
tells words end (Some asked) e some none =
    let asks = heard_asks words end asked.command asked.limits e some in (
      asks,
      λ request limits other.
          let heard = asks_heard words request limits other in
          let is : end ≡ heard.0 = some_same end heard.0 _ e heard.1 in (
            same_verb end.verb request asked.command (rw (← is) at heard.2.verb) some.verb,
            same_limits end limits asked.limits (rw (← is) at heard.2.numbers) some.numbers,
          ),
      ((λ wrong. absurd (ok_is_no_error wrong)), λ outside. absurd (outside (asked.command, asked.limits, asks))),
    )
  where
    ok_is_no_error : IsErrOf {T = Ask} {E = AskFault} (Ok asked) fault.Usage → ⊥
    ok_is_no_error wrong = cc
tells words end None e some none = (tt, tt, (λ is. outside, λ is. refl))
  where
    outside : IsOfForm words → ⊥
    outside (request, limits, asks) =
        let heard = asks_heard words request limits asks in
        let is : heard.0 ≡ end = some_same heard.0 end _ heard.1 e in
        none request limits (rw is at heard.2)

-- whether something is asked tells whether the words are of the form
pub decides : (words : List Bytes) (end : Heard) (o : Option Ask) → heard_all nothing_heard words ≡ Some end
    → IfSome o (λ asked. IsHeardAs end asked.command asked.limits) → IfNone o ((request : Command) → (limits : Limits) → IsHeardAs end request limits → ⊥)
    → (is_some o ≡ true) ↔ IsOfForm words
decides words end (Some asked) e some none = (λ is. (asked.command, asked.limits, heard_asks words end asked.command asked.limits e some), λ form. refl)
decides words end None e some none = (
  λ is. absurd (true≢false (sym is)),
  λ form. absurd (let told = tells words end None e some none in told.2.0 refl form),
)

-- ---- what `clap` finds in words of the form is what they are heard as

number_listed : (vs : List Bytes) (end : Option ℕ) → number_after None vs ≡ Some end → number_found (listed vs) ≡ end
number_listed [] end e = cc
number_listed (v ∷ []) end e =
    let first = first_step (numeral v) (λ n. Some (Some n)) end e in
    let is : Some first.0 ≡ end = cc in
    first.1 ∙ is
number_listed (v ∷ w ∷ more) end e =
    let first = first_step (numeral v) (λ n. number_after (Some n) (w ∷ more)) end e in
    absurd (some≢none end (sym first.2))

verb_listed : (words : List Bytes) (end : Verb) (request : Command) → IsCommand words request → IsVerb end request → verb_found (listed words) ≡ end
verb_listed words end command.Classify is told = ap (λ (ws : List Bytes). verb_found (listed ws)) is ∙ sym told
verb_listed words end (command.Trial n) (value, is, read, small) told =
    ap (λ (ws : List Bytes). verb_found (listed ws)) is ∙ ap (λ (o : Option ℕ). Trial o) read ∙ sym told.0

pub form_found : (words : List Bytes) → IsOfForm words
    → (takes command_line words ≡ true) × (heard_all nothing_heard words ≡ Some (heard_of (matches_of command_line words)))
form_found words (request, limits, a) =
    let end = asks_pieces words request limits a in
    let h = pieces_heard a.parts nothing_heard end.0 end.1 in
    let clap = clap_takes a.parts nothing_heard end.0 end.1 in
    let rows = matches_of command_line (words_of a.parts) in
    let workers : number_found (all_of (limit Workers) rows) ≡ end.0.workers = ap number_found (clap.1.options Workers) ∙ number_listed (values Workers a.parts) end.0.workers (h.numbers Workers) in
    let cells : number_found (all_of (limit Cells) rows) ≡ end.0.cells = ap number_found (clap.1.options Cells) ∙ number_listed (values Cells a.parts) end.0.cells (h.numbers Cells) in
    let max_contexts : number_found (all_of (limit MaxContexts) rows) ≡ end.0.max_contexts = ap number_found (clap.1.options MaxContexts) ∙ number_listed (values MaxContexts a.parts) end.0.max_contexts (h.numbers MaxContexts) in
    let max_facts : number_found (all_of (limit MaxFacts) rows) ≡ end.0.max_facts = ap number_found (clap.1.options MaxFacts) ∙ number_listed (values MaxFacts a.parts) end.0.max_facts (h.numbers MaxFacts) in
    let verb : verb_found (all_of (codes "words") rows) ≡ end.0.verb = ap verb_found clap.1.words_found ∙ verb_listed (own_words a.parts) end.0.verb request a.command end.2.verb in
    let waiting : None ≡ end.0.waiting = sym end.2.complete in
    let same : heard_of rows ≡ end.0 = λ i. record { workers = workers i; cells = cells i; max_contexts = max_contexts i; max_facts = max_facts i; verb = verb i; waiting = waiting i } in (
      ap (takes command_line) a.spelled ∙ clap.0,
      ap (heard_all nothing_heard) a.spelled ∙ words_heard a.parts nothing_heard end.0 refl end.1
          ∙ ap Some (sym same) ∙ ap (λ (ws : List Bytes). Some (heard_of (matches_of command_line ws))) (sym a.spelled),
    )

-- a refusal of words of the form is for want of memory
pub refused_form : (words : List Bytes) (r : Result Ask AskFault) (told : AskFault) → IsOfForm words → r ≡ Err told
    → (takes command_line words ≡ true → told ≡ fault.Memory) → IsErrOf r fault.Usage ↔ (IsOfForm words → ⊥)
refused_form words r told form is memory = (
  λ usage. let wants : told ≡ fault.Memory = memory (form_found words form).0 in let bad : fault.Memory ≡ fault.Usage = cc in absurd (cc),
  λ outside. absurd (outside form),
)

-- what an answer has to say of the words
pub record IsAnswer (words : List Bytes) (r : Result Ask AskFault) : Type 0 where
  pub asked : IfOk r (λ asked. Asks words asked.command asked.limits)
  pub only : IfOk r (λ asked. AsksOnly words asked.command asked.limits)
  pub usage : IsErrOf r fault.Usage ↔ (IsOfForm words → ⊥)

-- what is asked where words of the form were parsed
pub form_answer : (words : List Bytes) (heard : Heard) (o : Option Ask) (r : Result Ask AskFault) → IsOfForm words → heard ≡ heard_of (matches_of command_line words)
    → IfSome o (λ asked. IsHeardAs heard asked.command asked.limits) → IfNone o ((request : Command) → (limits : Limits) → IsHeardAs heard request limits → ⊥)
    → r ≡ ok_or o fault.Usage → IsAnswer words r
form_answer words heard o r form is some none answer =
    let told = tells words heard o ((form_found words form).1 ∙ ap Some (sym is)) some none in
    subst (IsAnswer words) (sym answer) (record { asked = told.0; only = told.1; usage = told.2 })
