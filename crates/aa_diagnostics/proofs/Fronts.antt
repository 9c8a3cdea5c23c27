-- What stands before a policy's profiles, word by word: where the sign stands that sets a variable.
use Rattle.std.proofs.Common.{◌≡◌, ℕ, List, [], ◌∷◌, ◌++◌, Bool, true, false, refl, sym, ap, ◌∙◌}
use Rattle.std.specs.Prelude.{not, codes}
use Rattle.aa_base.specs.declared.fault.Spot.{Spot}
use Rattle.aa_words.specs.declared.word.WordKind.{WordKind}
use Rattle.aa_words.specs.declared.word.WordKind.TheVariants.{Equals, Path, Name, Value}
use Rattle.aa_words.specs.Splits.{WordData}
use Rattle.aa_rules.specs.Grammar.{Many, Starts, spot_of}
use Rattle.aa_policy.specs.Preamble.{PreambleData, Assigns, Abi, AssignmentData, Assigning, sign_of, IsValue, NoValue, IsAssignment, IsAbi, CanNameAbi, IsPreambleItem, Here, is_variable_name}
use Rattle.aa_diagnostics.specs.Earlier.{sets, sets_next}

-- how a variable is written
abbrev pub written : List ℕ → List ℕ
written name = codes "@{" ++ name ++ codes "}"

-- no word of these sets a variable, where the rest follows
abbrev pub Quiet : List WordData → List WordData → Type 0
Quiet [] rest = Unit {0}
Quiet (w ∷ ws) rest = (sets_next (ws ++ rest) ≡ false) × Quiet ws rest

pub quiet_cut : (ws rest : List WordData) → Quiet ws rest → Quiet ws []
quiet_cut [] rest q = tt
quiet_cut (w ∷ []) rest q = (refl, tt)
quiet_cut (w ∷ v ∷ ws) rest q = (q.0, quiet_cut (v ∷ ws) rest q.1)

-- the words of an assignment: its variable, its sign, its values
pub record IsAssigned (front : List WordData) (a : AssignmentData) (rest : List WordData) : Type 0 where
  pub variable : WordData
  pub sign : WordData
  pub values : List WordData
  pub are : front ≡ variable ∷ sign ∷ values
  pub text : variable.text ≡ written a.name
  pub named : is_variable_name a.name ≡ true
  pub stands : spot_of variable ≡ a.at
  pub sets_it : sets sign.kind ≡ not a.adds
  pub quiet : Quiet (sign ∷ values) rest

-- the words of an item
abbrev pub IsFront : List WordData → PreambleData → List WordData → Type 0
IsFront front (Assigns a) rest = IsAssigned front a rest
IsFront front Abi rest = Quiet front rest

starts_quiet : (kind : WordKind) (ws : List WordData) (w : WordData) (rest : List WordData) → Starts kind ws w rest → sets kind ≡ false → sets_next ws ≡ false
starts_quiet kind ws w rest s e = ap sets_next s.words ∙ ap sets s.kind_is ∙ e

value_front : (ws : List WordData) (values : List (List ℕ)) (rest : List WordData) → Many IsValue NoValue ws values rest → sets_next rest ≡ false
    → (front : List WordData) × (ws ≡ front ++ rest) × Quiet front rest × (sets_next ws ≡ false)
value_front ws [] rest b e = ([], sym b.0, tt, ap sets_next (sym b.0) ∙ e)
value_front ws (v ∷ vs) rest b e =
    let one = b.1 in
    let more = value_front b.0 vs rest b.2 e in
    (one.word ∷ more.0, one.stands.words ∙ ap (λ (l : List WordData). one.word ∷ l) more.1, (ap sets_next (sym more.1) ∙ more.3, more.2), starts_quiet Value ws one.word b.0 one.stands refl)

sets_sign : (adds : Bool) → sets (sign_of adds) ≡ not adds
sets_sign true = refl
sets_sign false = refl

assigned_front : (ws : List WordData) (a : AssignmentData) (rest : List WordData) → IsAssignment ws a rest → sets_next rest ≡ false
    → (front : List WordData) × (ws ≡ front ++ rest) × IsAssigned front a rest
assigned_front ws a rest h e =
    let head = h.head in
    let more = value_front h.after a.values rest h.values e in (
      head.variable ∷ head.sign ∷ more.0,
      head.variable_stands.words ∙ ap (λ (l : List WordData). head.variable ∷ l) (head.sign_stands.words ∙ ap (λ (l : List WordData). head.sign ∷ l) more.1),
      record {
        variable = head.variable;
        sign = head.sign;
        values = more.0;
        are = refl;
        text = head.names.text_is;
        named = head.names.is_name;
        stands = sym head.at_is;
        sets_it = ap sets head.sign_stands.kind_is ∙ sets_sign a.adds;
        quiet = (ap sets_next (sym more.1) ∙ more.3, more.2);
      },
    )

names_quiet : (kind : WordKind) (text : List ℕ) → CanNameAbi kind text → sets kind ≡ false
names_quiet Equals text h = absurd h
names_quiet _ text h = refl

abi_front : (ws rest : List WordData) → IsAbi ws rest → sets_next rest ≡ false → (front : List WordData) × (ws ≡ front ++ rest) × Quiet front rest
abi_front ws rest h e =
    let key = h.keyword_stands in (
      key.word ∷ h.word ∷ h.comma ∷ [],
      key.stands.words ∙ ap (λ (l : List WordData). key.word ∷ l) (h.word_stands.words ∙ ap (λ (l : List WordData). h.word ∷ l) h.comma_stands.words),
      (names_quiet h.word.kind h.word.text h.word_stands.can_name, (ap sets h.comma_stands.kind_is, (e, tt))),
    )

pub item_front : (ws : List WordData) (item : PreambleData) (rest : List WordData) → IsPreambleItem ws item rest → sets_next rest ≡ false
    → (front : List WordData) × (ws ≡ front ++ rest) × IsFront front item rest
item_front ws (Assigns a) rest h e = assigned_front ws a rest h e
item_front ws Abi rest h e = abi_front ws rest h e

-- no item begins with a sign
pub assigning_starts : (ws : List WordData) (at : Spot) (name : List ℕ) (adds : Bool) (rest : List WordData) → Assigning ws at name adds rest → sets_next ws ≡ false
assigning_starts ws at name adds rest h = starts_quiet Path ws h.variable h.after h.variable_stands refl

item_starts : (ws : List WordData) (item : PreambleData) (rest : List WordData) → IsPreambleItem ws item rest → sets_next ws ≡ false
item_starts ws (Assigns a) rest h = assigning_starts ws a.at a.name a.adds h.after h.head
item_starts ws Abi rest h = starts_quiet Name ws h.keyword_stands.word h.named h.keyword_stands.stands refl

pub items_start : (ws : List WordData) (items : List PreambleData) (rest : List WordData) → Many IsPreambleItem Here ws items rest → sets_next rest ≡ false → sets_next ws ≡ false
items_start ws [] rest b e = ap sets_next (sym b) ∙ e
items_start ws (x ∷ xs) rest b e = item_starts ws x b.0 b.1
