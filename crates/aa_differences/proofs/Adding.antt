-- Differences are added one by one.
use Rattle.std.proofs.Common.{◌≡◌, inl, inr, List, [], ◌∷◌, ◌++◌, Contains, sym, ap, ◌∙◌, subst, ⊎_elim}
use Rattle.std.proofs.lemmas.List.Elements.{Contains-append_left, Contains-push, Contains-push_cases}
use Rattle.aa_model.specs.declared.policy.Policy.{Policy}
use Rattle.aa_model.specs.declared.label.Label.{Label}
use Rattle.aa_model.specs.declared.answer.Answer.{Answer}
use Rattle.aa_model.specs.declared.request.Request.{Request}
use Rattle.aa_model.specs.declared.request.Request.TheVariants.{File, Link, Exec, Cap, Net, Change, Reload}
use Rattle.aa_model.specs.Requests.{RequestedFile, RequestedLink, RequestedExec}
use Rattle.aa_regions.specs.Regions.{IsAsked}
use Rattle.aa_mediate.specs.Reply.{reply}
use Rattle.aa_representatives.specs.Askable.{IsAskable, kind_of}
use Rattle.aa_pattern.specs.declared.pattern.Pattern.{Pattern}
use Rattle.aa_unclean_paths.specs.Told.{TellsUnclean}
use Rattle.aa_unclean_paths.specs.Requests.{IsAtUncleanPath}
use Rattle.aa_representatives.specs.Both.{RepresentBoth}
use Rattle.aa_representatives.specs.Apart.{HasMatched, RepresentApart}
use Rattle.aa_differences.specs.declared.at_labels.Difference.{Difference}
use Rattle.aa_differences.specs.Same.{SameLabel, SameAnswer, AnsweredAlike}
use Rattle.aa_differences.specs.Differences.{IsDifference, IsEntryOf, IsListedAt, ListAllAt, AddsAt}

-- the paths of a request that can be asked can be
file_asked : (f : RequestedFile) → IsAskable (File f) → IsAsked f.path
file_asked f (inl k) = k.0
file_asked f (inr (inl k)) = absurd k
file_asked f (inr (inr (inl k))) = absurd k
file_asked f (inr (inr (inr (inl k)))) = absurd k
file_asked f (inr (inr (inr (inr (inl k))))) = absurd k
file_asked f (inr (inr (inr (inr (inr (inl k)))))) = absurd k
file_asked f (inr (inr (inr (inr (inr (inr k)))))) = absurd k

link_asked : (x : RequestedLink) → IsAskable (Link x) → IsAsked x.link × IsAsked x.target
link_asked x (inl k) = absurd k
link_asked x (inr (inl k)) = k
link_asked x (inr (inr (inl k))) = absurd k
link_asked x (inr (inr (inr (inl k)))) = absurd k
link_asked x (inr (inr (inr (inr (inl k))))) = absurd k
link_asked x (inr (inr (inr (inr (inr (inl k)))))) = absurd k
link_asked x (inr (inr (inr (inr (inr (inr k)))))) = absurd k

exec_asked : (x : RequestedExec) → IsAskable (Exec x) → IsAsked x.path
exec_asked x (inl k) = absurd k
exec_asked x (inr (inl k)) = absurd k
exec_asked x (inr (inr (inl k))) = k
exec_asked x (inr (inr (inr (inl k)))) = absurd k
exec_asked x (inr (inr (inr (inr (inl k))))) = absurd k
exec_asked x (inr (inr (inr (inr (inr (inl k)))))) = absurd k
exec_asked x (inr (inr (inr (inr (inr (inr k)))))) = absurd k

-- such a pattern matches a path of it where one is unclean
module _ (p : Pattern) (tells : TellsUnclean p) where
  matched_then : (r : Request) → IsAskable r → HasMatched p r → IsAtUncleanPath r
  matched_then (File f) asked h = (tells f.path (file_asked f asked)).0 h
  matched_then (Link x) asked h = let a = link_asked x asked in ⊎_elim (λ e. inl ((tells x.link a.0).0 e)) (λ e. inr ((tells x.target a.1).0 e)) h
  matched_then (Exec x) asked h = (tells x.path (exec_asked x asked)).0 h
  matched_then (Cap c) asked h = h
  matched_then (Net f s) asked h = h
  matched_then (Change name) asked h = h
  matched_then (Reload k) asked h = h

  then_matched : (r : Request) → IsAskable r → IsAtUncleanPath r → HasMatched p r
  then_matched (File f) asked u = (tells f.path (file_asked f asked)).1 u
  then_matched (Link x) asked u = let a = link_asked x asked in ⊎_elim (λ e. inl ((tells x.link a.0).1 e)) (λ e. inr ((tells x.target a.1).1 e)) u
  then_matched (Exec x) asked u = (tells x.path (exec_asked x asked)).1 u
  then_matched (Cap c) asked u = u
  then_matched (Net f s) asked u = u
  then_matched (Change name) asked u = u
  then_matched (Reload k) asked u = u

module _ (ps qs : List Policy) (l m : Label) where
  -- answers that are the same add nothing
  pub adds_none : (r : Request) (a b : Answer) (ds : List Difference) → a ≡ reply ps l r → b ≡ reply qs m r → SameAnswer ps qs a b → AddsAt ps qs l m r ds ds
  adds_none r a b ds e f same = record {
    kept = λ d c. c;
    each = λ before d c. before d c;
    listed = inl (subst (λ (x : Answer). SameAnswer ps qs x (reply qs m r)) e (subst (λ (y : Answer). SameAnswer ps qs a y) f same));
  }

  -- those that differ are added
  pub adds_one : (r : Request) (a b : Answer) (was now : List Difference) (d : Difference) → now ≡ was ++ d ∷ [] → d.from ≡ l → d.to ≡ m → d.request ≡ r → d.old ≡ a → d.new ≡ b
      → a ≡ reply ps l r → b ≡ reply qs m r → SameLabel ps qs l m → IsAskable r → (SameAnswer ps qs a b → ⊥) → AddsAt ps qs l m r was now
  adds_one r a b was now d is from to request old new e f labels asked differ = record {
    kept = λ x c. subst (λ (l : List Difference). Contains l x) (sym is) (Contains-append_left was (d ∷ []) x c);
    each = λ before x c. ⊎_elim (before x) (λ (g : d ≡ x). subst (IsDifference ps qs) g own) (Contains-push_cases was d x (subst (λ (l : List Difference). Contains l x) is c));
    listed = inr (
      d,
      subst (λ (l : List Difference). Contains l d) (sym is) (Contains-push was d),
      record {
        from = from;
        to = to;
        kind = ap kind_of (sym request);
        clean = subst IsAtUncleanPath request;
        old = old ∙ e;
        new = new ∙ f;
      },
    );
  }
    where
      own : IsDifference ps qs d
      own = record {
        labels = subst (λ (x : Label). SameLabel ps qs x d.to) (sym from) (subst (λ (y : Label). SameLabel ps qs l y) (sym to) labels);
        asked = subst IsAskable (sym request) asked;
        old = old ∙ e ∙ ap (λ (x : Label). reply ps x r) (sym from) ∙ ap (reply ps d.from) (sym request);
        new = new ∙ f ∙ ap (λ (x : Label). reply qs x r) (sym to) ∙ ap (reply qs d.to) (sym request);
        differ = λ same. differ (subst (λ (x : Answer). SameAnswer ps qs x b) old (subst (λ (y : Answer). SameAnswer ps qs d.old y) new same));
      }

  pub listed_keep : (r : Request) (was now : List Difference) → ((d : Difference) → Contains was d → Contains now d) → IsListedAt ps qs l m r was → IsListedAt ps qs l m r now
  listed_keep r was now keep listed = ⊎_elim inl (λ (h : (d : Difference) × Contains was d × IsEntryOf ps qs l m r d). inr (h.0, keep h.0 h.1, h.2)) listed

  -- a request that is answered as one that is listed is, where an entry is at an unclean path only where it is
  listed_as : (r q : Request) (ds : List Difference) → kind_of r ≡ kind_of q → reply ps l r ≡ reply ps l q → reply qs m r ≡ reply qs m q
      → ((d : Difference) → Contains ds d → (IsAtUncleanPath d.request → IsAtUncleanPath q) → IsAtUncleanPath d.request → IsAtUncleanPath r)
      → IsListedAt ps qs l m q ds → IsListedAt ps qs l m r ds
  listed_as r q ds kind old new clean listed =
      ⊎_elim
      (λ (same : AnsweredAlike ps qs l m q).
      inl (subst (λ (x : Answer). SameAnswer ps qs x (reply qs m r)) (sym old) (subst (λ (y : Answer). SameAnswer ps qs (reply ps l q) y) (sym new) same)))
      (λ (h : (d : Difference) × Contains ds d × IsEntryOf ps qs l m q d).
      inr (
        h.0,
        h.1,
        record {
          from = h.2.from;
          to = h.2.to;
          kind = kind ∙ h.2.kind;
          clean = clean h.0 h.1 h.2.clean;
          old = h.2.old ∙ sym old;
          new = h.2.new ∙ sym new;
        },
      ))
      listed

  -- where each representative is listed, each request is, if all entries are at clean paths
  pub list_all : (rs : List Request) → RepresentBoth ps l qs m rs → (ds : List Difference)
      → ((d : Difference) → Contains ds d → IsAtUncleanPath d.request → ⊥)
      → ((r : Request) → Contains rs r → IsListedAt ps qs l m r ds) → ListAllAt ps qs l m ds
  list_all rs stand ds clean listed r asked =
      let q = stand.all r asked in
      listed_as r q.0 ds q.2 q.3 q.4 (λ d c same unclean. absurd (clean d c unclean)) (listed q.0 q.1)

  -- or if those that a pattern matches which tells unclean paths stand for such alone
  pub list_apart : (rs : List Request) (p : Pattern) → TellsUnclean p → RepresentApart ps l qs m p rs → (ds : List Difference)
      → ((r : Request) → Contains rs r → IsListedAt ps qs l m r ds) → ListAllAt ps qs l m ds
  list_apart rs p tells stand ds listed r asked =
      let q = stand.all r asked in
      listed_as r q.0 ds q.2 q.3 q.4
      (λ d c same unclean. matched_then p tells r asked (q.5 (then_matched p tells q.0 (stand.each q.0 q.1) (same unclean))))
      (listed q.0 q.1)
