-- What is heard of pieces, and the values and words that they give.
use Rattle.std.proofs.Common.{◌≡◌, ◌⊎◌, ℕ, Bool, cond, true, false, true≢false, List, [], ◌∷◌, ◌++◌, Option, Some, None, is_some, option_map, option_and_then, refl, ap, sym, ◌∙◌, inl, inr}
use Rattle.cd_words.specs.Form.{Bytes, Part, apart, joined, alone, numeral, given, values, own_words}
use Rattle.cd_words.specs.Reading.{heard_value, heard_alone, number_heard, with_number, verb_after}
use Rattle.cd_words.specs.declared.heard.Heard.{Heard}
use Rattle.cd_words.specs.declared.heard.Verb.{Verb}
use Rattle.cd_words.specs.declared.setting.Setting.{Setting}
use Rattle.cd_words.specs.declared.setting.Setting.TheVariants.{Workers, Cells, MaxContexts, MaxFacts}

pub some≢none : {X : Type 0} (x : X) → Some x ≡ None → ⊥
some≢none x e = true≢false (ap is_some e)

pub is_or_not : (b : Bool) → (b ≡ true) ⊎ (b ≡ false)
is_or_not true = inl refl
is_or_not false = inr refl

-- ---- pieces heard one by one

abbrev pub heard_piece : Heard → Part → Option Heard
heard_piece heard (apart option value) = heard_value heard option value
heard_piece heard (joined option value) = heard_value heard option value
heard_piece heard (alone word) = heard_alone heard word

abbrev pub heard_pieces : Heard → List Part → Option Heard
heard_pieces heard [] = Some heard
heard_pieces heard (piece ∷ more) = option_and_then (λ next. heard_pieces next more) (heard_piece heard piece)

-- the number after the values, each of which is the first
abbrev pub number_after : Option ℕ → List Bytes → Option (Option ℕ)
number_after had [] = Some had
number_after None (value ∷ more) = option_and_then (λ n. number_after (Some n) more) (numeral value)
number_after (Some n) (value ∷ more) = None

abbrev pub verb_after_all : Verb → List Bytes → Option Verb
verb_after_all verb [] = Some verb
verb_after_all verb (word ∷ more) = option_and_then (λ next. verb_after_all next more) (verb_after verb word)

-- ---- a value

pub record IsValue (heard : Heard) (option : Setting) (value : Bytes) (next : Heard) : Type 0 where
  pub n : ℕ
  pub new : number_heard heard option ≡ None
  pub read : numeral value ≡ Some n
  pub is : next ≡ with_number heard option n

pub value_heard : (heard next : Heard) (option : Setting) (value : Bytes) → heard_value heard option value ≡ Some next → IsValue heard option value next
value_heard heard next option value e = go (number_heard heard option) (numeral value) refl refl e
  where
    go : (had n : Option ℕ) → number_heard heard option ≡ had → numeral value ≡ n
        → cond (is_some had) None (option_map (with_number heard option) n) ≡ Some next → IsValue heard option value next
    go (Some k) n is of e = absurd (some≢none next (sym e))
    go None None is of e = absurd (some≢none next (sym e))
    go None (Some n) is of e = record { n = n; new = is; read = of; is = cc }

-- ---- the numbers that are heard

step_same : (had : Option ℕ) (value : Bytes) (n : ℕ) (more : List Bytes) → had ≡ None → numeral value ≡ Some n
    → number_after had (value ∷ more) ≡ number_after (Some n) more
step_same had value n more new read = rw (new, read) refl

number_step : (heard : Heard) (option other : Setting) (value : Bytes) (n : ℕ) (more : List Bytes) → number_heard heard other ≡ None → numeral value ≡ Some n
    → number_after (number_heard heard option) (given option other value ++ more) ≡ number_after (number_heard (with_number heard other n) option) more
number_step heard Workers Workers value n more new read = step_same _ value n more new read
number_step heard Workers Cells value n more new read = refl
number_step heard Workers MaxContexts value n more new read = refl
number_step heard Workers MaxFacts value n more new read = refl
number_step heard Cells Workers value n more new read = refl
number_step heard Cells Cells value n more new read = step_same _ value n more new read
number_step heard Cells MaxContexts value n more new read = refl
number_step heard Cells MaxFacts value n more new read = refl
number_step heard MaxContexts Workers value n more new read = refl
number_step heard MaxContexts Cells value n more new read = refl
number_step heard MaxContexts MaxContexts value n more new read = step_same _ value n more new read
number_step heard MaxContexts MaxFacts value n more new read = refl
number_step heard MaxFacts Workers value n more new read = refl
number_step heard MaxFacts Cells value n more new read = refl
number_step heard MaxFacts MaxContexts value n more new read = refl
number_step heard MaxFacts MaxFacts value n more new read = step_same _ value n more new read

-- the numbers and the words on their own, after the pieces
pub record IsHeardOf (heard : Heard) (pieces : List Part) (end : Heard) : Type 0 where
  pub numbers : (option : Setting) → number_after (number_heard heard option) (values option pieces) ≡ Some (number_heard end option)
  pub verb : verb_after_all heard.verb (own_words pieces) ≡ Some end.verb
  pub waiting : heard.waiting ≡ None → end.waiting ≡ None

pub value_kept : (heard : Heard) (option : Setting) (n : ℕ) → ((with_number heard option n).verb ≡ heard.verb) × ((with_number heard option n).waiting ≡ None)
value_kept heard Workers n = (refl, refl)
value_kept heard Cells n = (refl, refl)
value_kept heard MaxContexts n = (refl, refl)
value_kept heard MaxFacts n = (refl, refl)

abbrev pub values_after_value : Setting → Bytes → List Part → Setting → List Bytes
values_after_value other value more option = given option other value ++ values option more

after_value : (heard next end : Heard) (other : Setting) (value : Bytes) (more : List Part) → IsValue heard other value next → IsHeardOf next more end
    → ((option : Setting) → number_after (number_heard heard option) (values_after_value other value more option) ≡ Some (number_heard end option))
    × (verb_after_all heard.verb (own_words more) ≡ Some end.verb) × (end.waiting ≡ None)
after_value heard next end other value more v h =
    let kept = value_kept heard other v.n in
    let verb : next.verb ≡ heard.verb = ap (λ (x : Heard). x.verb) v.is ∙ kept.0 in
    let idle : next.waiting ≡ None = ap (λ (x : Heard). x.waiting) v.is ∙ kept.1 in (
      λ option. number_step heard option other value v.n (values option more) v.new v.read
          ∙ ap (λ (x : Heard). number_after (number_heard x option) (values option more)) (sym v.is) ∙ h.numbers option,
      ap (λ (x : Verb). verb_after_all x (own_words more)) (sym verb) ∙ h.verb,
      h.waiting idle,
    )

pub record IsAlone (heard : Heard) (word : Bytes) (next : Heard) : Type 0 where
  pub verb : Verb
  pub told : verb_after heard.verb word ≡ Some verb
  pub is : next ≡ record heard { verb = verb }

pub alone_heard : (heard next : Heard) (word : Bytes) → heard_alone heard word ≡ Some next → IsAlone heard word next
alone_heard heard next word e = go (verb_after heard.verb word) refl e
  where
    go : (v : Option Verb) → verb_after heard.verb word ≡ v → option_map (λ verb. record heard { verb = verb }) v ≡ Some next → IsAlone heard word next
    go None is e = absurd (some≢none next (sym e))
    go (Some verb) is e = record { verb = verb; told = is; is = cc }

after_alone : (heard next end : Heard) (word : Bytes) (more : List Part) → IsAlone heard word next → IsHeardOf next more end → IsHeardOf heard (alone word ∷ more) end
after_alone heard next end word more v h = record {
  numbers = λ option. ap (λ (x : Option ℕ). number_after x (values option more)) (same option) ∙ h.numbers option;
  verb = rw v.told (ap (λ (x : Heard). verb_after_all x.verb (own_words more)) (sym v.is) ∙ h.verb);
  waiting = λ idle. h.waiting (ap (λ (x : Heard). x.waiting) v.is ∙ idle);
}
  where
    same : (option : Setting) → number_heard heard option ≡ number_heard next option
    same Workers = ap (λ (x : Heard). x.workers) (sym v.is)
    same Cells = ap (λ (x : Heard). x.cells) (sym v.is)
    same MaxContexts = ap (λ (x : Heard). x.max_contexts) (sym v.is)
    same MaxFacts = ap (λ (x : Heard). x.max_facts) (sym v.is)

-- a first step that gives something
pub first_step : {X Y : Type 0} (o : Option X) (f : X → Option Y) (end : Y) → option_and_then f o ≡ Some end → (next : X) × (o ≡ Some next) × (f next ≡ Some end)
first_step None f end e = absurd (some≢none end (sym e))
first_step (Some next) f end e = (next, refl, e)

pub pieces_heard : (pieces : List Part) (heard end : Heard) → heard_pieces heard pieces ≡ Some end → IsHeardOf heard pieces end
pieces_heard [] heard end e =
    let is : heard ≡ end = cc in
    record {
      numbers = λ option. ap (λ (x : Heard). Some (number_heard x option)) is;
      verb = ap (λ (x : Heard). Some x.verb) is;
      waiting = λ idle. ap (λ (x : Heard). x.waiting) (sym is) ∙ idle;
    }
pieces_heard (apart other value ∷ more) heard end e =
    let first = first_step (heard_value heard other value) (λ next. heard_pieces next more) end e in
    let after = after_value heard first.0 end other value more (value_heard heard first.0 other value first.1) (pieces_heard more first.0 end first.2) in
    record { numbers = after.0; verb = after.1; waiting = λ idle. after.2 }
pieces_heard (joined other value ∷ more) heard end e =
    let first = first_step (heard_value heard other value) (λ next. heard_pieces next more) end e in
    let after = after_value heard first.0 end other value more (value_heard heard first.0 other value first.1) (pieces_heard more first.0 end first.2) in
    record { numbers = after.0; verb = after.1; waiting = λ idle. after.2 }
pieces_heard (alone word ∷ more) heard end e =
    let first = first_step (heard_alone heard word) (λ next. heard_pieces next more) end e in
    after_alone heard first.0 end word more (alone_heard heard first.0 word first.1) (pieces_heard more first.0 end first.2)

-- ---- where something is heard

-- the first value of an option is a numeral, and it had none
number_first : (heard : Heard) (other : Setting) (value : Bytes) (more : List Bytes) (end : Option ℕ)
    → number_after (number_heard heard other) (given other other value ++ more) ≡ Some end
    → (number_heard heard other ≡ None) × (n : ℕ) × (numeral value ≡ Some n)
number_first heard other value more end = at other
  where
    go : (had : Option ℕ) → number_after had (value ∷ more) ≡ Some end → (had ≡ None) × (n : ℕ) × (numeral value ≡ Some n)
    go (Some k) e = absurd (some≢none end (sym e))
    go None e = let n = read (numeral value) e in (refl, n.0, n.1)
      where
        read : (o : Option ℕ) → option_and_then (λ n. number_after (Some n) more) o ≡ Some end → (n : ℕ) × (o ≡ Some n)
        read None e = absurd (some≢none end (sym e))
        read (Some n) e = (n, refl)

    at : (o : Setting) → number_after (number_heard heard o) (given o o value ++ more) ≡ Some end
        → (number_heard heard o ≡ None) × (n : ℕ) × (numeral value ≡ Some n)
    at Workers e = go heard.workers e
    at Cells e = go heard.cells e
    at MaxContexts e = go heard.max_contexts e
    at MaxFacts e = go heard.max_facts e

abbrev pub HasNumbersAfter : Heard → List Part → Type 0
HasNumbersAfter heard pieces = (option : Setting) → (end : Option ℕ) × (number_after (number_heard heard option) (values option pieces) ≡ Some end)

abbrev pub HasVerbAfter : Heard → List Part → Type 0
HasVerbAfter heard pieces = (end : Verb) × (verb_after_all heard.verb (own_words pieces) ≡ Some end)

abbrev IsHeard : Heard → List Part → Type 0
IsHeard heard pieces = (end : Heard) × (heard_pieces heard pieces ≡ Some end)

-- a value that may come is heard, and what follows it may come after it
value_comes : (heard : Heard) (other : Setting) (value : Bytes) (more : List Part)
    → ((option : Setting) → (end : Option ℕ) × (number_after (number_heard heard option) (values_after_value other value more option) ≡ Some end))
    → (verb : Verb) → verb_after_all heard.verb (own_words more) ≡ Some verb
    → (next : Heard) × (heard_value heard other value ≡ Some next) × HasNumbersAfter next more × HasVerbAfter next more
value_comes heard other value more numbers verb told =
    let first = number_first heard other value (values other more) (numbers other).0 (numbers other).1 in
    let n = first.1 in (
      with_number heard other n,
      rw (first.0, first.2) refl,
      λ option. ((numbers option).0, sym (number_step heard option other value n (values option more) first.0 first.2) ∙ (numbers option).1),
      (verb, ap (λ (x : Verb). verb_after_all x (own_words more)) (value_kept heard other n).0 ∙ told),
    )

pub pieces_come : (pieces : List Part) (heard : Heard) → HasNumbersAfter heard pieces → HasVerbAfter heard pieces → IsHeard heard pieces
pieces_come [] heard numbers verb = (heard, refl)
pieces_come (apart other value ∷ more) heard numbers verb =
    let next = value_comes heard other value more numbers verb.0 verb.1 in
    let end = pieces_come more next.0 next.2 next.3 in
    (end.0, rw next.1 end.1)
pieces_come (joined other value ∷ more) heard numbers verb =
    let next = value_comes heard other value more numbers verb.0 verb.1 in
    let end = pieces_come more next.0 next.2 next.3 in
    (end.0, rw next.1 end.1)
pieces_come (alone word ∷ more) heard numbers (end, told) =
    let first = first_step (verb_after heard.verb word) (λ next. verb_after_all next (own_words more)) end told in
    let next : Heard = record heard { verb = first.0 } in
    let end = pieces_come more next (λ option. ((numbers option).0, ap (λ (x : Option ℕ). number_after x (values option more)) (other_verb heard first.0 option) ∙ (numbers option).1)) (end, first.2) in
    (end.0, ap (λ (x : Option Verb). option_and_then (λ next. heard_pieces next more) (option_map (λ verb. record heard { verb = verb }) x)) first.1 ∙ end.1)
  where
    other_verb : (heard : Heard) (verb : Verb) (option : Setting) → number_heard (record heard { verb = verb }) option ≡ number_heard heard option
    other_verb heard verb Workers = refl
    other_verb heard verb Cells = refl
    other_verb heard verb MaxContexts = refl
    other_verb heard verb MaxFacts = refl
