use Rattle.std.proofs.Common.{◌≡◌, ◌++◌, ◌∙◌, ℕ, List, Some, ap, inr}
use Rattle.std.specs.Borrow.{Bor}
use Rattle.std.specs.Io.Chain.{chain_remaining}
use Rattle.std.specs.Prelude.{option_map}
use Rattle.csv.specs.Reading.{Ready, strip_bom}
use Rattle.csv.specs.declared.parser.Config.{Config}
use Rattle.diff_csv.specs.Quotes.{mark}
use Rattle.diff_csv.specs.Reading.{marked_remaining}
use Rattle.diff_csv.proofs.ReadingLemmas.{starts}
use Rattle.diff_csv.proofs.reading.reader_of.Goals as goal

pub returns : goal.returns
returns g c = λ text known.
    let made = c.from_reader.ensures in
    let delimiter = c.delimiter.ensures in
    let lengths = c.flexible.ensures in
    let headers = c.has_headers.ensures in
    let ready : Ready c.from_reader.result = inr (inr (rw (delimiter, lengths, headers) at made.has_headers, made.headers)) in
    let trim : c.from_reader.result.trim ≡ c.new.result.trim = rw (delimiter, lengths, headers) at made.trim in
    let config : c.from_reader.result.config ≡ record c.new.result.config { delimiter = c.args.options.delimiter } = rw (delimiter, lengths, headers) at made.config in
    let chained : chain_remaining g.R.Read.remaining (λ (s : Bor (List ℕ)). Some s.now) c.chain.result ≡ Some (text ++ mark) = rw known at c.chain.ensures.bytes in
    let bytes : marked_remaining g.R.Read.remaining c.new-marked.result ≡ Some (text ++ mark) = ap (chain_remaining g.R.Read.remaining (λ (s : Bor (List ℕ)). Some s.now)) c.new-marked.ensures ∙ chained in
    starts (marked_remaining g.R.Read.remaining) c.args.options (text ++ mark) c.from_reader.result
    (trim ∙ c.new.ensures.trim)
    ready
    (config ∙ ap (λ (k : Config). record k { delimiter = c.args.options.delimiter }) c.new.ensures.config)
    (made.source ∙ ap (option_map strip_bom) bytes)
    made.state
