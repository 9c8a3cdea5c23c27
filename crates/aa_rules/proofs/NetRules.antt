-- Rules on sockets read in one way alone.
use Rattle.std.proofs.Common.{◌≡◌, ℕ, List, [], ◌∷◌, Option, Some, None, refl, sym, ap, subst, ◌∙◌}
use Rattle.std.specs.Prelude.{codes, is_some, option_map, option_and_then}
use Rattle.std.specs.Option.{option_or}
use Rattle.aa_base.specs.declared.fault.PolicyKind.{PolicyKind}
use Rattle.aa_words.specs.declared.word.WordKind.TheVariants.{Name}
use Rattle.aa_words.specs.Splits.{WordData}
use Rattle.aa_model.specs.declared.rule.NetRule.{NetRule}
use Rattle.aa_rules.specs.declared.net_rules.Sockets.{Sockets}
use Rattle.aa_rules.specs.declared.tree.Qualifiers.{Qualifiers}
use Rattle.aa_rules.specs.CapRules.{NamesEnd}
use Rattle.aa_rules.specs.NetRules.{network_of, one_in, one_name, kinds_in, two_names, all_families, all_kinds, sockets, IsName, IsSockets, IsNets, IsNet}
use Rattle.aa_rules.specs.Phrases.{Many, Starts, Lacks}
use Rattle.aa_rules.specs.RuleFaults.{socket_name_fault, NetFails}
use Rattle.aa_base.specs.Tables.{family_names}
use Rattle.aa_rules.proofs.Phrases.{starts_same, keyword_once}
use Rattle.std.proofs.lemmas.Option.{same_Some}
use Rattle.aa_rules.proofs.CapRules.{names_end_once}
use Rattle.aa_rules.proofs.Repetition.{Reads, step, many_once}

-- ---- one reading alone

name_once : (ws : List WordData) (x y : List ℕ) (r s : List WordData) → IsName ws x r → IsName ws y s → (x ≡ y) × (r ≡ s)
name_once ws x y r s a b =
    let w = starts_same ws a.name b.name r s a.stands.words b.stands.words in
    (a.text_is ∙ ap (λ (v : WordData). v.text) w.0 ∙ sym b.text_is, w.1)

name_apart : (ws : List WordData) (x : List ℕ) (r s : List WordData) → IsName ws x r → NamesEnd ws s → ⊥
name_apart ws x r s a b = b.1 a.name r a.stands

names_read : Reads IsName NamesEnd
names_read = record { once = name_once; ends_once = names_end_once; apart = name_apart }

sockets_once : (ws : List WordData) (x y : Sockets) (r s : List WordData) → IsSockets ws x r → IsSockets ws y s → (x ≡ y) × (r ≡ s)
sockets_once ws x y r s a b =
    let n = many_once IsName NamesEnd names_read ws a.names b.names r s a.names_stand b.names_stand in
    (same_Some x y (sym a.meant ∙ ap network_of n.0 ∙ b.meant), n.1)

abbrev rule : Qualifiers → Sockets → NetRule
rule q named = record { audit = q.audit; deny = q.deny; families = named.families; kinds = named.kinds }

nets_once : (q : Qualifiers) (ws : List WordData) (x y : NetRule) (r s : List WordData) → IsNets q ws x r → IsNets q ws y s → (x ≡ y) × (r ≡ s)
nets_once q ws x y r s a b =
    let n = sockets_once ws a.named b.named r s a.sockets_stand b.sockets_stand in
    (a.rule_is ∙ ap (rule q) n.0 ∙ sym b.rule_is, n.1)

pub net_once : (q : Qualifiers) (ws : List WordData) (x y : NetRule) (r s : List WordData) → IsNet q ws x r → IsNet q ws y s → (x ≡ y) × (r ≡ s)
net_once q ws x y r s a b =
    let k = keyword_once (codes "network") ws a.0 b.0 a.1 b.1 in
    nets_once q b.0 x y r s (subst (λ (z : List WordData). IsNets q z x r) k a.2) b.2

-- the names of a rule that mean nothing
pub no_nets : (q : Qualifiers) (ws : List WordData) (x : NetRule) (rest : List WordData) → ((named : Sockets) (r : List WordData) → IsSockets ws named r → ⊥) → IsNets q ws x rest → ⊥
no_nets q ws x rest h a = h a.named rest a.sockets_stand

-- ---- the names, one by one

abbrev named : (ws : List WordData) (w : WordData) (after : List WordData) → Starts Name ws w after → IsName ws w.text after
named ws w after s = record { name = w; stands = s; text_is = refl }

pub found_none : (ws : List WordData) → Lacks Name ws → IsSockets ws (sockets all_families all_kinds) ws
found_none ws l = record { names = []; names_stand = (refl, l); meant = refl }

pub found_one : (ws : List WordData) (w : WordData) (after : List WordData) (x : Sockets) → Starts Name ws w after → Lacks Name after → Some x ≡ one_name w.text → IsSockets ws x after
found_one ws w after x s l e = record { names = w.text ∷ []; names_stand = (after, named ws w after s, (refl, l)); meant = sym e }

pub found_two : (ws : List WordData) (v : WordData) (us : List WordData) (w : WordData) (after : List WordData) (x : Sockets) → Starts Name ws v us → Starts Name us w after → Lacks Name after
    → Some x ≡ two_names v.text w.text → IsSockets ws x after
found_two ws v us w after x s t l e = record { names = v.text ∷ w.text ∷ []; names_stand = (us, named ws v us s, (after, named us w after t, (refl, l))); meant = sym e }

none_some : (x : Sockets) → None ≡ Some x → ⊥
none_some x e = cc

first_apart : (v w : List ℕ) (o : Option ℕ) (q : Option Sockets) → None ≡ option_or (option_map (λ f. sockets f all_kinds) o) q → None ≡ option_and_then (λ f. option_map (sockets f) (kinds_in f w)) o
first_apart v w None q e = refl
first_apart v w (Some f) q e = absurd (none_some _ e)

-- where the first name stands for nothing by itself, it does so before others too
first_means : (v : List ℕ) (more : List (List ℕ)) → None ≡ one_name v → None ≡ network_of (v ∷ more)
unfolding one_name two_names
first_means v [] e = e
first_means v (w ∷ []) e = first_apart v w (one_in family_names v) _ e
first_means v (w ∷ x ∷ more) e = refl

-- a name that stands for nothing, whatever follows
pub no_one : (ws : List WordData) (w : WordData) (after : List WordData) (x : Sockets) (rest : List WordData) → Starts Name ws w after → None ≡ one_name w.text → IsSockets ws x rest → ⊥
no_one ws w after x rest s e a =
    let f = step IsName NamesEnd names_read ws a.names rest w.text after (named ws w after s) a.names_stand in
    none_some x (first_means w.text f.0 e ∙ ap network_of (sym f.1) ∙ a.meant)

-- the names begin with these two
two_first : (ws : List WordData) (v : WordData) (us : List WordData) (w : WordData) (after : List WordData) (names : List (List ℕ)) (rest : List WordData) → Starts Name ws v us → Starts Name us w after
    → Many IsName NamesEnd ws names rest → (more : List (List ℕ)) × (names ≡ v.text ∷ w.text ∷ more) × Many IsName NamesEnd after more rest
two_first ws v us w after names rest s t m =
    let f = step IsName NamesEnd names_read ws names rest v.text us (named ws v us s) m in
    let g = step IsName NamesEnd names_read us f.0 rest w.text after (named us w after t) f.2 in
    (g.0, f.1 ∙ ap (λ (z : List (List ℕ)). v.text ∷ z) g.1, g.2)

two_mean : (v w : List ℕ) (more : List (List ℕ)) → None ≡ two_names v w → None ≡ network_of (v ∷ w ∷ more)
two_mean v w [] e = e
two_mean v w (x ∷ more) e = refl

-- two names that stand for nothing, whatever follows
pub no_two : (ws : List WordData) (v : WordData) (us : List WordData) (w : WordData) (after : List WordData) (x : Sockets) (rest : List WordData) → Starts Name ws v us → Starts Name us w after
    → None ≡ two_names v.text w.text → IsSockets ws x rest → ⊥
no_two ws v us w after x rest s t e a =
    let f = two_first ws v us w after a.names rest s t a.names_stand in
    none_some x (two_mean v.text w.text f.0 e ∙ ap network_of (sym f.1) ∙ a.meant)

-- three names
pub no_three : (ws : List WordData) (v : WordData) (us : List WordData) (w : WordData) (ts : List WordData) (u : WordData) (after : List WordData) (x : Sockets) (rest : List WordData)
    → Starts Name ws v us → Starts Name us w ts → Starts Name ts u after → IsSockets ws x rest → ⊥
no_three ws v us w ts u after x rest s t y a =
    let f = two_first ws v us w ts a.names rest s t a.names_stand in
    let g = step IsName NamesEnd names_read ts f.0 rest u.text after (named ts u after y) f.2 in
    let e : a.names ≡ v.text ∷ w.text ∷ u.text ∷ g.0 = f.1 ∙ ap (λ (z : List (List ℕ)). v.text ∷ w.text ∷ z) g.1 in
    none_some x (ap network_of (sym e) ∙ a.meant)

-- ---- the name with which they stand for nothing

pub fails_first : (ws : List WordData) (w : WordData) (after : List WordData) (kind : PolicyKind) → Starts Name ws w after → None ≡ one_name w.text → kind ≡ socket_name_fault w.text → NetFails ws kind ws
fails_first ws w after kind s e k = record { names = []; name = w; after = after; before = refl; stands = s; meant = refl; meaningless = sym e; kind_is = k }

pub fails_second : (ws : List WordData) (v : WordData) (us : List WordData) (w : WordData) (after : List WordData) (x : Sockets) (kind : PolicyKind) → Starts Name ws v us → Starts Name us w after
    → Some x ≡ one_name v.text → None ≡ two_names v.text w.text → kind ≡ socket_name_fault w.text → NetFails ws kind us
fails_second ws v us w after x kind s t o e k = record { names = v.text ∷ []; name = w; after = after; before = (us, named ws v us s, refl); stands = t; meant = ap is_some (sym o); meaningless = sym e; kind_is = k }

pub fails_third : (ws : List WordData) (v : WordData) (us : List WordData) (w : WordData) (ts : List WordData) (u : WordData) (after : List WordData) (x : Sockets) (kind : PolicyKind)
    → Starts Name ws v us → Starts Name us w ts → Starts Name ts u after → Some x ≡ two_names v.text w.text → kind ≡ socket_name_fault u.text → NetFails ws kind ts
fails_third ws v us w ts u after x kind s t y o k = record {
  names = v.text ∷ w.text ∷ [];
  name = u;
  after = after;
  before = (us, named ws v us s, (ts, named us w ts t, refl));
  stands = y;
  meant = ap is_some (sym o);
  meaningless = refl;
  kind_is = k;
}
