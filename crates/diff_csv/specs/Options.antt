-- The options by which a CSV text is read.
--
-- A comma or a tab may stand between fields, and a quote may not.
use Rattle.std.specs.Prelude.{◌==◌, ◌||◌, not, ℕ, Bool}
use Rattle.csv.specs.Reading.{default_config}
use Rattle.csv.specs.declared.parser.Config.{Config}
use Rattle.diff_csv.specs.declared.options.CsvOptions.{CsvOptions}

-- the configuration of the reader: that of the `csv` crate by default, but with this byte between
-- fields
abbrev pub config_of : CsvOptions → Config
config_of options = record default_config { delimiter = options.delimiter }

-- whether a byte may stand between fields: any but a quote, a line feed and a carriage return
abbrev pub is_delimiter : ℕ → Bool
is_delimiter byte = not ((byte == 34) || (byte == 10) || (byte == 13))
