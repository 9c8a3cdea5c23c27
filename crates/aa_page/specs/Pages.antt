-- The frame of a page, its sections and its lists.
-- Source: HTML; own.
use Rattle.std.specs.Prelude.{ℕ, List, ◌++◌, codes, Bool, if◌then◌else◌}
use Rattle.aa_page.specs.Escaped.{shown}
use Rattle.aa_page.specs.Style.{style_text}

-- before the title: the page is HTML in UTF-8; nothing is fetched for it, and no script runs
unfoldable pub head_text : List ℕ
head_text =
    codes "<!DOCTYPE html>\n<html lang=\"en\">\n<head>\n<meta charset=\"utf-8\">\n<meta http-equiv=\"Content-Security-Policy\" content=\"default-src 'none'; style-src 'unsafe-inline'\">\n<meta name=\"viewport\" content=\"width=device-width, initial-scale=1\">\n"

-- the title, as the browser's window has it
unfoldable pub title_text : List ℕ → List ℕ
title_text title = codes "<title>" ++ shown title ++ codes "</title>\n"

-- what the page shows begins
unfoldable pub body_start : List ℕ
body_start = codes "</head>\n<body>\n"

-- the title, as the page has it
unfoldable pub heading : List ℕ → List ℕ
heading title = codes "<h1>" ++ shown title ++ codes "</h1>\n"

-- the begin of a page
unfoldable pub page_start : List ℕ → List ℕ
page_start title = head_text ++ title_text title ++ style_text ++ body_start ++ heading title

-- the end of a page
abbrev pub page_end : List ℕ
page_end = codes "</body>\n</html>\n"

-- what has a section unfolded at first
abbrev pub details : Bool → List ℕ
details is_open = if is_open then codes "<details open>\n" else codes "<details>\n"

-- the begin of a section that folds, and that is unfolded at first or not
unfoldable pub section_start : Bool → List ℕ → List ℕ
section_start is_open title = details is_open ++ codes "<summary>" ++ shown title ++ codes "</summary>\n"

-- the end of a section
abbrev pub section_end : List ℕ
section_end = codes "</details>\n"

-- a paragraph
unfoldable pub paragraph : List ℕ → List ℕ
paragraph text = codes "<p>" ++ shown text ++ codes "</p>\n"

-- the begin of a list
abbrev pub list_start : List ℕ
list_start = codes "<ul>"

-- the end of a list
abbrev pub list_end : List ℕ
list_end = codes "</ul>\n"
