-- The definitions at their examples.
use Rattle.std.proofs.Common.{◌≡◌, ℕ, true, false, List, [], ◌∷◌, Some, None, refl, sym}
use Rattle.std.specs.Prelude.{codes}
use Rattle.aa_words.specs.Runs.{path_len, quoted_len, quote_len, skip_len}
use Rattle.aa_base.specs.declared.fault.PolicyKind.TheVariants.{Syntax, Unsupported, UnknownWord, WriteWithAppend}
use Rattle.aa_glob.specs.Pieces.{pieces, Use, pieces_from, name_len}
use Rattle.aa_policy.specs.Preamble.{Names}
use Rattle.aa_model.specs.declared.rule.ExecKind.TheVariants.{Profile}
use Rattle.aa_model.specs.declared.rule.Fallback.TheVariants.{Inherit}
use Rattle.aa_rules.specs.declared.modes.Mode.{Mode}
use Rattle.aa_rules.specs.Modes.{mode, how, mode_of, exec_of, with_part, letters_bits, mode_fault}
use Rattle.aa_rules.specs.Names.{is_left_out}
use Rattle.aa_rules.specs.NetRules.{one_name, two_names, transport_kinds}
use Rattle.aa_rules.specs.Phrases.{Starts}
use Rattle.aa_rules.specs.RuleFaults.{first_name_fault, rule_name_fault, socket_name_fault, NetFails}
use Rattle.aa_base.specs.Tables.{family_names, sock_type_names}
use Rattle.aa_words.specs.declared.word.WordKind.TheVariants.{Name}
use Rattle.aa_words.specs.Splits.{WordData}
use Rattle.aa_language_laws.specs.Names.{name}
use Rattle.aa_language_laws.specs.Places.{EndsFirst}
use Rattle.aa_language_laws.specs.Paths.{PathEnds}
use Rattle.aa_language_laws.specs.ModeParts.{IsModeOf}
use Rattle.aa_language_laws.specs.PassedOver.{RuleEnds}
use Rattle.aa_language_laws.specs.Quotes.{ClosesQuote}
use Rattle.aa_language_laws.proofs.Paths.{paths_first}
use Rattle.aa_language_laws.proofs.RunEnds.{closes}
use Rattle.aa_language_laws.proofs.PassedOver.{skips_first}
use Rattle.aa_language_laws.proofs.Modes.{modes_are}
use Rattle.aa_language_laws.proofs.VariableNames.{pattern_variables}

pub braces : EndsFirst PathEnds (codes "a{b,c}d, r") 7
unfolding path_len
braces = paths_first (codes "a{b,c}d, r")

pub brackets : EndsFirst PathEnds (codes "a[,{]b, r") 6
unfolding path_len
brackets = paths_first (codes "a[,{]b, r")

pub backslash : EndsFirst PathEnds (codes "a\\, r") 3
unfolding path_len
backslash = paths_first (codes "a\\, r")

pub letter : EndsFirst PathEnds (codes "a,b r") 3
unfolding path_len
letter = paths_first (codes "a,b r")

pub quote : ClosesQuote (codes "a\\\"b\" r") 5
unfolding quoted_len quote_len
quote = (closes (codes "a\\\"b\" r") 5).0 refl

pub parentheses : EndsFirst RuleEnds (codes " (send, receive) peer=\"a,b\", /x r,") 27
unfolding skip_len
parentheses = skips_first (codes " (send, receive) peer=\"a,b\", /x r,")

pub comment : EndsFirst RuleEnds (codes " # {a, \"b\n[a,b] {c,d}, /x r,") 21
unfolding skip_len
comment = skips_first (codes " # {a, \"b\n[a,b] {c,d}, /x r,")

pub within : EndsFirst RuleEnds (codes " a#b \"#, \" c, r") 12
unfolding skip_len
within = skips_first (codes " a#b \"#, \" c, r")

pub front : IsModeOf false (codes "rwPix") (mode 71 (how Profile true Inherit))
unfolding mode_of exec_of with_part letters_bits
front = (modes_are false (codes "rwPix") (mode 71 (how Profile true Inherit))).0 refl

pub both : IsModeOf false (codes "rpixk") (mode 81 (how Profile false Inherit))
unfolding mode_of exec_of with_part letters_bits
both = (modes_are false (codes "rpixk") (mode 81 (how Profile false Inherit))).0 refl

pub denied : IsModeOf true (codes "rx") (mode 65 None)
unfolding mode_of exec_of with_part letters_bits
denied = (modes_are true (codes "rx") (mode 65 None)).0 refl

none_some : (m : Mode) → None ≡ Some m → ⊥
none_some m e = absurd cc

pub mixed : (m : Mode) → IsModeOf false (codes "wa") m → ⊥
unfolding mode_of
mixed m i = none_some m ((modes_are false (codes "wa") m).1 i)

pub plain : (m : Mode) → IsModeOf false (codes "rx") m → ⊥
unfolding mode_of exec_of with_part letters_bits
plain m i = none_some m ((modes_are false (codes "rx") m).1 i)

pub twice : (m : Mode) → IsModeOf false (codes "ixrpx") m → ⊥
unfolding mode_of exec_of with_part letters_bits
twice m i = none_some m ((modes_are false (codes "ixrpx") m).1 i)

pub named : Names (codes "@{A_1}") (codes "A_1")
named = record { text_is = refl; is_name = refl }

pub pattern : pieces (codes "@{A_1}") ≡ Use (codes "A_1") ∷ []
pattern = (pattern_variables (codes "@{A_1}") (codes "A_1")).1 named

use_or_not : (name : List ℕ) → pieces (codes "@{1A}") ≡ Use name ∷ [] → ⊥
unfolding pieces_from name_len
use_or_not name e = absurd cc

pub none : (name : List ℕ) → Names (codes "@{1A}") name → ⊥
none name n = use_or_not name ((pattern_variables (codes "@{1A}") name).1 n)

pub left_out_first : first_name_fault false true (codes "all") ≡ Unsupported
unfolding first_name_fault is_left_out
left_out_first = refl

pub unknown_first : first_name_fault false false (codes "rw") ≡ UnknownWord
unfolding first_name_fault is_left_out
unknown_first = refl

pub faulty_first : first_name_fault false true (codes "wa") ≡ WriteWithAppend
unfolding first_name_fault is_left_out mode_fault with_part letters_bits
faulty_first = refl

pub owned_first : rule_name_fault true false false (codes "change_profile") ≡ Syntax
unfolding rule_name_fault
owned_first = refl

pub condition_name : socket_name_fault (codes "peer") ≡ Unsupported
unfolding socket_name_fault
condition_name = refl

pub family_name : socket_name_fault (codes "inet") ≡ Syntax
unfolding socket_name_fault one_name family_names
family_name = refl

pub unknown_name : socket_name_fault (codes "inet4") ≡ UnknownWord
unfolding socket_name_fault one_name transport_kinds family_names sock_type_names
unknown_name = refl

starts : (text : List ℕ) (ws : List WordData) → Starts Name (name text ∷ ws) (name text) ws
starts text ws = record { words = refl; kind_is = refl }

pub fails_first : NetFails (name (codes "peer") ∷ name (codes "inet") ∷ []) Unsupported (name (codes "peer") ∷ name (codes "inet") ∷ [])
unfolding one_name transport_kinds family_names sock_type_names
fails_first = record {
  names = [];
  name = name (codes "peer");
  after = name (codes "inet") ∷ [];
  before = refl;
  stands = starts (codes "peer") (name (codes "inet") ∷ []);
  meant = refl;
  meaningless = refl;
  kind_is = sym condition_name;
}

pub fails_second : NetFails (name (codes "stream") ∷ name (codes "inet") ∷ []) Syntax (name (codes "inet") ∷ [])
unfolding one_name two_names family_names sock_type_names
fails_second = record {
  names = codes "stream" ∷ [];
  name = name (codes "inet");
  after = [];
  before = (name (codes "inet") ∷ [], record { name = name (codes "stream"); stands = starts (codes "stream") (name (codes "inet") ∷ []); text_is = refl }, refl);
  stands = starts (codes "inet") [];
  meant = refl;
  meaningless = refl;
  kind_is = sym family_name;
}
