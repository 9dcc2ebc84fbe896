-- The claims of specs/Claims.antt, proved. Assumes nothing.
use Rattle.script_lines.specs.Claims.{LineRead, SyntaxOfLine}
use Rattle.script_lines.proofs.LineLaw.{line_verdict}
use Rattle.script_lines.proofs.SyntaxLaw.{line_spelled, line_only}

pub line_read : LineRead
line_read = line_verdict

pub syntax_of_line : SyntaxOfLine
syntax_of_line = record { spelled = line_spelled; only = line_only }
