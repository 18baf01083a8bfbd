-- The page model answers every case of the table as the table says, by computation.
use Rattle.std.specs.Prelude.{◌≡◌, refl, map}
use Rattle.model.specs.Gather.{sum, between, total, each, every, row}
use Rattle.model.specs.Galley.{count, streams, zeros, sizes, blocks}
use Rattle.model.specs.Height.{has, kinds, stacked, height, tightest, loosest}
use Rattle.model.specs.Leaf.{leaf, ends, sides_of}
use Rattle.model.specs.Rules.{forward, may_end, closes, fits, fills, cited, first_broken, broken}
use Rattle.model.specs.Turns.{page_of, apart, x_of, y_of, turns}
use Rattle.model.specs.White.{white_on, whites, white}
use Rattle.model.specs.Answers.{chunks, pages_of, words_of, counted, same, refuse, judge, counts_of, marked}
use Rattle.model.specs.Order.{then_by, by, lex, geb, oddly, starts_of, before}
use Rattle.model.specs.Best.{prefixed, box, keep, onward, lists, allowed, valid, first_of, best, made, made_words}
use Rattle.model.specs.Weighed.{sum_of, product, weighs, weighed, past, weighed_from, greatest, together, most_together, ceiling}
use Rattle.model.specs.Opening.{begins, valid_after, best_after, end_of, pages_turned, opening_turned, made_after, made_words_after}
use Rattle.model.specs.Book.{sides_on, open_on, folio_in, first_folio, gathered, choices, summed, book_pages, book_x, book_white, book_y, book_turns, tie_of, tie_order, ties_of, book_before, best_book, book_counts, book_made, book_words}
use Rattle.cases.specs.Case.{blank, nth, stream_of, galley_of, makes, marks, refuses, counts, asks, answered}
use Rattle.cases.specs.Galleys.{spec, line, figure, spaced, three, galley_a, galley_b, galley_c, galley_d, galley_e, galley_f, galley_g, galley_h, galley_i, galley_j, galley_k, galley_l, galley_m, galley_n, galley_o, galley_p, galley_q, galley_r, galley_s, galley_t, galley_u, galley_v, tabling, as_tables, keeping, closing, sided}
use Rattle.cases.specs.Starred.{starred}
use Rattle.cases.specs.Further.{makings, heights, refusals}
use Rattle.cases.specs.Requests.{folios, keepings, closings}
use Rattle.cases.specs.Tables.{tables_made, tables_high, tables_refused}
use Rattle.cases.specs.Weighings.{weighings}
use Rattle.cases.specs.Openings.{openings_made, openings_turned, openings_weighed}
use Rattle.cases.specs.Whites.{whites_left, whites_after}
use Rattle.cases.specs.Books.{books}
use Rattle.cases.specs.Meetings.{folio_kept, folio_opening, folio_edition, folio_sided, kept_opening, kept_edition, kept_book, kept_sided, tables_opening, opening_edition, white_edition, edition_book, edition_sided, book_sided}
use Rattle.cases.specs.Table.{table}

pub table_agrees : map (λ c. answered c.galley c.question) table ≡ map (λ c. c.reply) table
unfolding sum between total each every row count streams zeros sizes blocks has kinds stacked height tightest loosest leaf ends sides_of forward may_end closes fits fills cited first_broken broken page_of apart x_of y_of turns white_on whites white chunks pages_of words_of counted same refuse judge counts_of marked then_by by lex geb oddly starts_of before prefixed box keep onward lists allowed valid first_of best made made_words sum_of product weighs weighed past weighed_from greatest together most_together ceiling begins valid_after best_after end_of pages_turned opening_turned made_after made_words_after sides_on open_on folio_in first_folio gathered choices summed book_pages book_x book_white book_y book_turns tie_of tie_order ties_of book_before best_book book_counts book_made book_words blank nth stream_of galley_of makes marks refuses counts asks answered spec line figure spaced three galley_a galley_b galley_c galley_d galley_e galley_f galley_g galley_h galley_i galley_j galley_k galley_l galley_m galley_n galley_o galley_p galley_q galley_r galley_s galley_t galley_u galley_v tabling as_tables keeping closing sided starred makings heights refusals folios keepings closings tables_made tables_high tables_refused weighings openings_made openings_turned openings_weighed whites_left whites_after books folio_kept folio_opening folio_edition folio_sided kept_opening kept_edition kept_book kept_sided tables_opening opening_edition white_edition edition_book edition_sided book_sided table
table_agrees = refl
