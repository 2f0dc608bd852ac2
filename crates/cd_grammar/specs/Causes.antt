-- The cause that the machine finds for an item that it can't take.
use Rattle.std.specs.Prelude.{ℕ, zero, suc, Bool, true, false, not, ◌&&◌, List, [], ◌∷◌, Option, Some, None, is_some}
use Rattle.std.specs.Str.{bytes_eq}
use Rattle.cd_names.specs.Prefixes.{meaning}
use Rattle.cd_syntax.specs.declared.cause.Cause.{Cause}
use Rattle.cd_syntax.specs.declared.cause.Cause.TheVariants.{Construct, Prefix, Depth, Syntax}
use Rattle.cd_syntax.specs.declared.item.Item.{Item}
use Rattle.cd_syntax.specs.declared.item.Item.TheVariants.{Word, Short, FullIri}
use Rattle.cd_syntax.specs.declared.known.Known.{Known}
use Rattle.cd_syntax.specs.declared.refusal.Refusal.{Refusal}
use Rattle.cd_grammar.specs.declared.symbol.Frame.{Frame}
use Rattle.cd_grammar.specs.declared.symbol.Symbol.{Symbol}
use Rattle.cd_grammar.specs.declared.symbol.Symbol.TheVariants.{PrefixIri, AnnotationIn, AxiomIn, Inside}
use Rattle.cd_syntax.specs.declared.words.Form.{Form}
use Rattle.cd_syntax.specs.declared.words.Keyword.{Keyword}
use Rattle.cd_syntax.specs.Grammar.{top_role, bottom_role, nesting}
use Rattle.cd_syntax.specs.Items.{PlacedItem}
use Rattle.cd_syntax.specs.Operands.{has_class_head}
use Rattle.cd_syntax.specs.Refusal.{refusal_at}
use Rattle.cd_syntax.specs.Named.{iri_of}
use Rattle.cd_grammar.specs.Machine.{State, bare, wants_head_next, wants_part_next, step}

-- behind these operands a role may stand
abbrev pub wants_role_next : Frame → Bool
wants_role_next frame = wants_head_next frame && not (has_class_head frame.form)

-- the symbol wants a role, maybe beside other things
abbrev pub wants_role : Symbol → Bool
wants_role (AxiomIn form) = wants_role_next (bare (Form.Axiom form) nesting)
wants_role (Inside frame) = wants_role_next frame
wants_role symbol = false

abbrev pub number_of : Bool → Bool → Option ℕ
number_of true bottom = Some 45
number_of false true = Some 46
number_of false false = None

-- the number of an IRI that is no role
abbrev pub refused_role : Option (List ℕ) → Option ℕ
refused_role None = None
refused_role (Some i) = number_of (bytes_eq i top_role) (bytes_eq i bottom_role)

-- the number of a refused construct, where a role is wanted or not
abbrev pub refused : Known → Item → Bool → Option ℕ
refused known (Word (Keyword.Refused number)) wanted = Some number
refused known item true = refused_role (iri_of known item)
refused known item false = None

abbrev pub is_unknown : Known → Item → Bool
is_unknown known (Short p l) = not (is_some (meaning known.prefixes p))
is_unknown known item = false

-- a full IRI where that of a prefix is wanted
abbrev pub is_prefix_iri : Symbol → Item → Bool
is_prefix_iri (PrefixIri p) (FullIri i) = true
is_prefix_iri symbol item = false

abbrev pub is_zero : ℕ → Bool
is_zero zero = true
is_zero (suc n) = false

-- only the limit keeps the word from standing here
abbrev pub is_over : Symbol → Item → Bool
is_over (AnnotationIn n) (Word Keyword.Annotation) = is_zero n
is_over (Inside frame) (Word (Keyword.Expr form)) = wants_part_next frame && is_zero frame.nesting
is_over symbol item = false

abbrev pub first_of_causes : Option ℕ → Bool → Bool → Bool → Cause
first_of_causes (Some number) unknown clash over = Construct number
first_of_causes None true clash over = Prefix
first_of_causes None false true over = Prefix
first_of_causes None false false true = Depth
first_of_causes None false false false = Syntax

-- of an item that can't be taken, where this is wanted
abbrev pub cause_of : Known → List Symbol → Item → Cause
cause_of known [] item = first_of_causes (refused known item false)
    (is_unknown known item) false false
cause_of known (symbol ∷ stack) item =
    first_of_causes (refused known item (wants_role symbol)) (is_unknown known item)
    (is_prefix_iri symbol item) (is_over symbol item)

-- ---- a machine that keeps the cause

-- what a parser knows and wants, or why it stopped
pub data Standing : Type 0 where
  Going : Known → List Symbol → Standing
  Stopped : Refusal → Standing

abbrev pub standing_of : Known → List Symbol → PlacedItem → Option State → Standing
standing_of known stack placed (Some state) = Going state.0 state.1
standing_of known stack placed None = Stopped (refusal_at (cause_of known stack placed.0) placed.1)

-- after an item
abbrev pub stand_after : Standing → PlacedItem → Standing
stand_after (Stopped refusal) placed = Stopped refusal
stand_after (Going known stack) placed =
    standing_of known stack placed (step nesting (Some (known, stack)) placed.0)
