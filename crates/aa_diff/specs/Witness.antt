-- The first requests of findings, compared.
-- Source: own.
use Rattle.std.specs.Prelude.{ℕ, List, [], length}
use Rattle.std.specs.declared.cmp.Ordering.{Ordering}
use Rattle.std.specs.Ordering.{ordering_then, nat_cmp}
use Rattle.std.specs.Cmp.Lexicographic.{slice_cmp}
use Rattle.aa_model.specs.declared.request.Request.{Request}
use Rattle.aa_model.specs.declared.request.Request.TheVariants.{File, Link, Exec, Cap, Net, Change}
use Rattle.aa_diff.specs.declared.finding.Finding.{Finding}
use Rattle.aa_diff.specs.Findings.{kind_number, who_number}

-- the path or the name that is asked for, of a link its own path
abbrev pub first_text : Request → List ℕ
first_text (File r) = r.path
first_text (Link r) = r.link
first_text (Exec r) = r.path
first_text (Change name) = name
first_text _ = []

-- a link's target
abbrev pub second_text : Request → List ℕ
second_text (Link r) = r.target
second_text _ = []

-- the capability, or the family of a socket
abbrev pub first_number : Request → ℕ
first_number (Cap cap) = cap
first_number (Net family kind) = family
first_number _ = 0

-- the type of a socket
abbrev pub second_number : Request → ℕ
second_number (Net family kind) = kind
second_number _ = 0

-- requests go by their kinds, then by their texts in byte order, then by their numbers
abbrev pub request_cmp : Request → Request → Ordering
request_cmp q r =
    ordering_then (nat_cmp (kind_number q) (kind_number r))
    (ordering_then (slice_cmp nat_cmp (first_text q) (first_text r))
    (ordering_then (slice_cmp nat_cmp (second_text q) (second_text r))
    (ordering_then (nat_cmp (first_number q) (first_number r)) (nat_cmp (second_number q) (second_number r)))))

-- findings go by their first requests, then by their permissions, then by whose objects they hold of
abbrev pub witness_cmp : Finding → Finding → Ordering
witness_cmp f g =
    ordering_then (request_cmp f.request g.request)
    (ordering_then (nat_cmp f.letters.0 g.letters.0) (nat_cmp (who_number f.who) (who_number g.who)))

-- a shorter text goes first, of two of one length the first in byte order
abbrev pub text_cmp : List ℕ → List ℕ → Ordering
text_cmp s t = ordering_then (nat_cmp (length s) (length t)) (slice_cmp nat_cmp s t)

-- so of what is asked for
abbrev pub shortness_cmp : Request → Request → Ordering
shortness_cmp q r = ordering_then (text_cmp (first_text q) (first_text r)) (text_cmp (second_text q) (second_text r))
