use Rattle.diff_aligned.proofs.RoomLaws.{rows-in-room}
use Rattle.diff_aligned.proofs.ShownLaws.{text-shown}
use Rattle.diff_aligned.proofs.WidthLaws.{cut-le, cut-whole, paragraph-le, width-padded}
use Rattle.diff_aligned.proofs.laws.aligned_laws.Goals as goal

pub returns-clause-rows : goal.returns-clause-rows
returns-clause-rows c = rows-in-room

pub returns-clause-paragraphs : goal.returns-clause-paragraphs
returns-clause-paragraphs c = paragraph-le

pub returns-clause-shown : goal.returns-clause-shown
returns-clause-shown c = text-shown

pub returns-clause-cut : goal.returns-clause-cut
returns-clause-cut c = cut-le

pub returns-clause-padded : goal.returns-clause-padded
returns-clause-padded c = width-padded

pub returns-clause-whole : goal.returns-clause-whole
returns-clause-whole c = cut-whole
