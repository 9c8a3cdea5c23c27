-- What several files could change together, one of them alone could.
use Rattle.std.proofs.Common.{◌≡◌, ℕ, List, [], ◌∷◌, Bool, true, false, true≢false, Option, Some, None, refl, sym, ap, ◌∙◌}
use Rattle.std.specs.Prelude.{not, ◌&&◌, ◌||◌, is_some, codes}
use Rattle.std.specs.Option.{option_map_or}
use Rattle.std.specs.List.{list_any, slice_get}
use Rattle.std.specs.Str.{bytes_eq}
use Rattle.std.proofs.lemmas.List.Folds.{list_any-append}
use Rattle.aa_model.specs.declared.rule.ExecKind.{ExecKind}
use Rattle.aa_model.specs.declared.rule.ExecKind.TheVariants.{Inherit, Unconfined as Plain, Profile as Named, Child}
use Rattle.aa_model.specs.declared.rule.Exec.{Exec}
use Rattle.aa_model.specs.declared.policy.Profile.{Profile}
use Rattle.aa_model.specs.declared.label.Label.{Label}
use Rattle.aa_model.specs.declared.label.Label.TheVariants.{Unconfined, Confined}
use Rattle.aa_model.specs.declared.request.Request.{Request}
use Rattle.aa_model.specs.declared.request.Request.TheVariants.{Exec as Execute, Change}
use Rattle.aa_model.specs.Requests.{RequestedExec}
use Rattle.aa_model.specs.Lawful.{has_exec}
use Rattle.aa_compile.specs.FileRules.{file_verdict, chosen, way_of}
use Rattle.aa_compile.specs.Transitions.{child_name, named}
use Rattle.aa_skipping.specs.declared.unread.Head.{Head}
use Rattle.aa_skipping.specs.declared.unread.Unread.{Unread}
use Rattle.aa_skipping.specs.Searches.{has_rival, is_open}
use Rattle.aa_skipping.specs.Names.{is_of, may_be_unread, is_doubtful}
use Rattle.aa_skipping.specs.Undecided.{is_unsure, is_unsure_way, undecided_exec, is_doubtful_label, lets_change, undecided_in, undecided_free, undecided}
use Rattle.aa_skipping.specs.Laws.{AnswersStand}
use Rattle.aa_skipped.specs.Together.{together, has_label, one_decides, EachDecides}

-- some head of a file is such, or it may have others
abbrev pub some_head : (Head → Bool) → Unread → Bool
some_head h u = u.others || list_any h u.heads

four : (a b c d : Bool) → ((a || b) || (c || d)) ≡ ((a || c) || (b || d))
four true b c d = refl
four false true true d = refl
four false true false d = refl
four false false c d = refl

pub head_each : (h : Head → Bool) (us : List Unread) → some_head h (together us) ≡ list_any (some_head h) us
head_each h [] = refl
head_each h (u ∷ us) =
    let t : Unread = together us in
    ap (λ (b : Bool). (u.others || t.others) || b) (list_any-append h u.heads t.heads)
    ∙ (four u.others t.others (list_any h u.heads) (list_any h t.heads) ∙ ap (λ (b : Bool). some_head h u || b) (head_each h us))

none_each : (us : List Unread) → false ≡ list_any (λ _. false) us
none_each [] = refl
none_each (u ∷ us) = none_each us

and_each : (b : Bool) (f : Unread → Bool) (us : List Unread) → (b && list_any f us) ≡ list_any (λ u. b && f u) us
and_each true f us = refl
and_each false f us = none_each us

behind_each : (b : Bool) (f : Unread → Bool) (us : List Unread) → (list_any f us && b) ≡ list_any (λ u. f u && b) us
behind_each b f [] = refl
behind_each b f (u ∷ us) = either (f u) (list_any f us) b ∙ ap (λ (c : Bool). (f u && b) || c) (behind_each b f us)
  where
    either : (x y z : Bool) → ((x || y) && z) ≡ ((x && z) || (y && z))
    either true y true = refl
    either true true false = refl
    either true false false = refl
    either false y z = refl

module _ (profiles : List Profile) (us : List Unread) where
  open_each : (path : List ℕ) → is_open profiles (together us) path ≡ list_any (λ u. is_open profiles u path) us
  open_each path = head_each (has_rival profiles path) us

  pub doubtful_each : (name : List ℕ) → is_doubtful profiles (together us) name ≡ list_any (λ u. is_doubtful profiles u name) us
  doubtful_each name =
      let b : Bool = not (is_some (named profiles name)) in
      ap (λ (c : Bool). b && c) (head_each (λ (h : Head). is_of h.name name) us) ∙ and_each b (λ u. may_be_unread u name) us

  label_each : (name : List ℕ) → is_doubtful_label profiles (together us) name ≡ list_any (λ u. is_doubtful_label profiles u name) us
  label_each name =
      let b : Bool = not (bytes_eq name (codes "unconfined")) in
      ap (λ (c : Bool). b && c) (doubtful_each name) ∙ and_each b (λ u. is_doubtful profiles u name) us

  unsure_each : (p : Profile) (path : List ℕ) (kind : ExecKind) (target : Option (List ℕ)) → is_unsure profiles (together us) p path kind target ≡ list_any (λ u. is_unsure profiles u p path kind target) us
  unsure_each p path Named None = open_each path
  unsure_each p path Named (Some name) = doubtful_each name
  unsure_each p path Child None = none_each us
  unsure_each p path Child (Some name) =
      let b : Bool = not (is_some p.parent) in
      ap (λ (c : Bool). b && c) (doubtful_each (child_name p.name name)) ∙ and_each b (λ u. is_doubtful profiles u (child_name p.name name)) us
  unsure_each p path Inherit target = none_each us
  unsure_each p path Plain target = none_each us

  way_each : (p : Profile) (path : List ℕ) (way : Option Exec)
      → option_map_or (is_unsure_way profiles (together us) p path) way false ≡ list_any (λ u. option_map_or (is_unsure_way profiles u p path) way false) us
  way_each p path None = none_each us
  way_each p path (Some e) = unsure_each p path e.kind e.target

  exec_each : (p : Profile) (r : RequestedExec) → undecided_exec profiles (together us) p r ≡ list_any (λ u. undecided_exec profiles u p r) us
  exec_each p r =
      let b : Bool = not (has_exec (file_verdict p.files r.path r.owned).deny) in
      let way : Option Exec = way_of (chosen p.files r.path r.owned) in
      ap (λ (c : Bool). b && c) (way_each p r.path way) ∙ and_each b (λ u. option_map_or (is_unsure_way profiles u p r.path) way false) us

  in_each : (p : Profile) (request : Request) → undecided_in profiles (together us) p request ≡ list_any (λ u. undecided_in profiles u p request) us
  in_each p (Execute r) = exec_each p r
  in_each p (Change name) = ap (λ (c : Bool). c && lets_change p name) (label_each name) ∙ behind_each (lets_change p name) (λ u. is_doubtful_label profiles u name) us
  in_each p request = none_each us

  free_each : (request : Request) → undecided_free profiles (together us) request ≡ list_any (λ u. undecided_free profiles u request) us
  free_each (Execute r) = open_each r.path
  free_each (Change name) = label_each name
  free_each request = none_each us

  held_each : (o : Option Profile) (request : Request) → is_some o ≡ true
      → option_map_or (λ (p : Profile). undecided_in profiles (together us) p request) o true
      ≡ list_any (λ u. option_map_or (λ (p : Profile). undecided_in profiles u p request) o true) us
  held_each None request e = absurd (true≢false (sym e))
  held_each (Some p) request e = in_each p request

  pub undecided_each : (label : Label) (request : Request) → has_label profiles label ≡ true → undecided profiles (together us) label request ≡ one_decides profiles label request us
  unfolding undecided
  undecided_each (Unconfined k) request e = free_each request
  undecided_each (Confined k n) request e = held_each (slice_get profiles n) request e

pub each_decides : AnswersStand → EachDecides
each_decides stand us read joined place j label request has none = stand (together us) read joined place j label request (undecided_each read.profiles us label request has ∙ none)
