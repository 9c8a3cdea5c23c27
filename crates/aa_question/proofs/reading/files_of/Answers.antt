use Rattle.std.proofs.Common.{◌≡◌, ◌++◌, [], List, map, ap, ◌∙◌, refl}
use Rattle.aa_files.specs.Texts.{texts}
use Rattle.aa_question.specs.Memory.{Row, put_all, row_of, rows_of}
use Rattle.aa_question.proofs.Rows.{Entry, paths_are, rows_append}
use Rattle.aa_question.proofs.reading.files_of.Goals as goal

pub returns : goal.returns
returns c =
    let files = c.args.rows.items in
    let includes = c.args.includes.items in
    let paths : texts c.in_ok-paths.paths.items ≡ map (λ (row : Row). row.0) (map row_of files) = c.in_ok-paths.ensures ∙ ap (λ (es : List Entry). map (λ e. e.0.items) es) c.as_slice.ensures.value ∙ paths_are files in
    let rows : rows_of c.in_ok-texts.texts ≡ put_all (map row_of files ++ map row_of includes) [] =
    c.in_ok-texts.ensures ∙ ap (λ (es : List Entry). put_all (map row_of es) []) c.in_ok-append.ensures.items ∙ ap (λ (rs : List Row). put_all rs []) (rows_append files includes) in
    rw (paths, rows) refl
