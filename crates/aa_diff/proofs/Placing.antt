-- Any two rules, findings and lines compare.
use Rattle.std.proofs.Common.{ℕ, List}
use Rattle.std.specs.Cmp.{IsTotalOrder}
use Rattle.std.specs.Cmp.Lexicographic.{options_total}
use Rattle.std.proofs.lemmas.Cmp.{nat_cmp_total, nat_list_cmp_total, on_total, then_total}
use Rattle.aa_model.specs.declared.policy.Policy.{Policy}
use Rattle.aa_model.specs.declared.request.Request.{Request}
use Rattle.aa_compile.specs.Labels.{label_name}
use Rattle.aa_diff.specs.declared.rules.Rule.{Rule}
use Rattle.aa_diff.specs.declared.finding.Finding.{Finding}
use Rattle.aa_diff.specs.Findings.{kind_number, who_number}
use Rattle.aa_diff.specs.Rules.{rule_cmp}
use Rattle.aa_diff.specs.Places.{first_rule, side_number, place_cmp}
use Rattle.aa_diff.specs.Witness.{first_text, second_text, first_number, second_number, request_cmp, witness_cmp}
use Rattle.aa_diff.specs.Order.{part_number, rank, finding_cmp}
use Rattle.aa_diff.specs.Lines.{Told, label_of, part_of, line_cmp}

pub rule_total : IsTotalOrder rule_cmp
rule_total =
    then_total (on_total (λ (r : Rule). r.path) nat_list_cmp_total)
    (then_total (on_total (λ (r : Rule). r.place.line) nat_cmp_total) (on_total (λ (r : Rule). r.place.column) nat_cmp_total))

place_total : IsTotalOrder place_cmp
place_total = then_total (on_total side_number nat_cmp_total) (on_total first_rule (options_total rule_total))

request_total : IsTotalOrder request_cmp
request_total =
    then_total (on_total kind_number nat_cmp_total)
    (then_total (on_total first_text nat_list_cmp_total)
    (then_total (on_total second_text nat_list_cmp_total)
    (then_total (on_total first_number nat_cmp_total) (on_total second_number nat_cmp_total))))

witness_total : IsTotalOrder witness_cmp
witness_total =
    then_total (on_total (λ (f : Finding). f.request) request_total)
    (then_total (on_total (λ (f : Finding). f.letters.0) nat_cmp_total) (on_total (λ (f : Finding). who_number f.who) nat_cmp_total))

pub finding_total : (ps : List Policy) → IsTotalOrder (finding_cmp ps)
finding_total ps =
    then_total (on_total (λ (f : Finding). label_name ps f.from) nat_list_cmp_total)
    (then_total (on_total part_number nat_cmp_total)
    (then_total (on_total rank nat_cmp_total) (then_total place_total witness_total)))

pub line_total : (ps : List Policy) → IsTotalOrder (line_cmp ps)
line_total ps = then_total (on_total (λ (l : Told). label_name ps (label_of l)) nat_list_cmp_total) (on_total part_of nat_cmp_total)
