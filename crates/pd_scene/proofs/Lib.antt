mod CutLines
mod ScriptLines
