-- What is told of each label where a task begins.
-- Source: own.
use Rattle.std.specs.Prelude.{◌≡◌, ◌&&◌, ℕ, zero, suc, List, [], ◌∷◌, ◌++◌, map, Bool, false, not, Option}
use Rattle.std.specs.Option.{option_map_or}
use Rattle.std.specs.List.{AllZip}
use Rattle.aa_model.specs.declared.policy.Policy.{Policy}
use Rattle.aa_model.specs.declared.policy.Profile.{Profile}
use Rattle.aa_model.specs.declared.label.Label.{Label}
use Rattle.aa_model.specs.declared.label.Label.TheVariants.{Unconfined, Confined}
use Rattle.aa_compile.specs.Labels.{profile_in}
use Rattle.aa_reach.specs.declared.answering.Answer.{Answer}
use Rattle.aa_reach.specs.declared.graph.Vertex.{Vertex}
use Rattle.aa_reach.specs.Names.{name_in, name_of, name_left_open}
use Rattle.aa_skipped.specs.declared.skipped.Skipped.{Skipped}
use Rattle.aa_reach.specs.Doubts.{Doubted, doubted, doubted_at, doubted_name}
use Rattle.aa_reach.specs.Routes.{routed, barred, AreRoutes, AreEdges}
use Rattle.aa_command.specs.Counts.{count_of}

-- the answer for a label, where some labels may be asked for, and some by texts that are left open
pub record IsAnswer (counts enforced : Bool) (policies : List Policy) (skipped : List Skipped) (limit : ℕ) (targets : Option (List Label)) (sought : List (List ℕ))
    (from : Label) (a : Answer) : Type 0 where
  pub from_is : name_in a.from ≡ name_of policies from
  pub doubts : List Doubted
  pub told : AreRoutes counts enforced policies skipped limit from targets (map routed a.routes.items) (map barred a.bars.items) doubts
      (map routed a.unclean.routes.items) (map barred a.unclean.bars.items) (map doubted a.unclean.doubts.items)
  pub doubts_are : map doubted a.doubts.items ≡ map (doubted_name skipped) sought ++ doubts

-- the answers for labels, one by one
abbrev pub AreAnswers : Bool → Bool → List Policy → List Skipped → ℕ → Option (List Label) → List (List ℕ) → List Label → List Answer → Type 0
AreAnswers counts enforced policies skipped limit targets sought labels answers =
    AllZip (IsAnswer counts enforced policies skipped limit targets sought) labels answers

-- the answer for a text that is left open: nothing is told but which files may hold what it names
pub record IsOpenAnswer (skipped : List Skipped) (text : List ℕ) (a : Answer) : Type 0 where
  pub from_is : name_in a.from ≡ name_left_open text
  pub none : a.routes.items ≡ []
  pub told : a.bars.items ≡ []
  pub apart : a.unclean.routes.items ≡ []
  pub apart_told : a.unclean.bars.items ≡ []
  pub apart_decided : a.unclean.doubts.items ≡ []
  pub doubts : map doubted a.doubts.items ≡ doubted_name skipped text ∷ []

-- the profile of a label is in complain mode, and that counts
abbrev pub complains_at : Bool → List Policy → Label → Bool
complains_at enforced policies (Unconfined k) = false
complains_at enforced policies (Confined k n) = not enforced && option_map_or (λ (p : Profile). p.complain) (profile_in policies k n) false

-- a label in the graph of all, with what leads from it to others
pub record IsVertex (counts enforced : Bool) (policies : List Policy) (skipped : List Skipped) (limit : ℕ) (l : Label) (v : Vertex) : Type 0 where
  pub name_is : name_in v.edges.from ≡ name_of policies l
  pub complains : v.complains ≡ complains_at enforced policies l
  pub told : AreEdges counts enforced policies skipped limit l (map routed v.edges.routes.items) (map barred v.edges.bars.items)
      (map routed v.edges.unclean.routes.items)
  pub doubts : map doubted v.edges.doubts.items ≡ doubted_at policies skipped l

-- the labels of the first n profiles
abbrev pub first_labels : ℕ → List Label
first_labels zero = []
first_labels (suc n) = first_labels n ++ Confined 0 n ∷ []

-- all labels: of tasks without a profile, and of each profile
abbrev pub all_labels : List Policy → List Label
all_labels policies = (Unconfined 0 ∷ []) ++ first_labels (count_of policies)

-- all of them in the graph, one by one
abbrev pub AreVertices : Bool → Bool → List Policy → List Skipped → ℕ → List Vertex → Type 0
AreVertices counts enforced policies skipped limit vertices = AllZip (IsVertex counts enforced policies skipped limit) (all_labels policies) vertices
