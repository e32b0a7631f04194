-- Worked examples of the definitions.
use Rattle.std.specs.Char.{encode_utf8}
use Rattle.std.specs.Prelude.{◌≡◌, codes, refl}
use Rattle.bstr.proofs.Computing.{computing}
use Rattle.diff_json.specs.Strings.{char_text, json_string}
use Rattle.diff_page.specs.Page.{files_object, untagged}

-- a text that would end the script in which it stands
end-of-a-script : untagged (codes "</script>") ≡ codes "\\u003c/script>"
unfolding untagged
end-of-a-script = refl

-- the names of two files
names : files_object (codes "a.csv") (codes "b.csv") ≡ codes "{\"kind\":\"files\",\"left\":\"a.csv\",\"right\":\"b.csv\"}\n"
unfolding json_string char_text encode_utf8 computing
names = refl
