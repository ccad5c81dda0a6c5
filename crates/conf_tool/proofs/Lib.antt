mod Arguments
mod ModeInput
mod ModeOutput
mod Modes
mod Theorems
